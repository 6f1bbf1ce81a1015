-- The statement of what is kept of a stock, as a test: a struct may carry a test as its invariant. Assumes nothing.
use Rattle.std.specs.Prelude.{ℕ, Bool, true, false, not, ◌&&◌, List, [], ◌∷◌, length, ℤ, is_some, Some, None, Option, ◌==◌, int_le, nat_eq, nat_le}
use Rattle.std.specs.Option.{unwrap_or}
use Rattle.return_source.specs.declared.terms.ScenarioSet.TheVariants.{Historical, Stress}
use Rattle.return_source.specs.declared.terms.EntitlementType.TheVariants.{Dsp, Sri, Div}
use Rattle.return_source.specs.declared.terms.Entitlement.{Entitlement}
use Rattle.return_source.specs.declared.terms.Parameters.{Parameters}
use Rattle.parameter_file.specs.declared.terms.StockRows.{StockRows}
use Rattle.file_rules.specs.Rows.{Row, returns_in, rate_in, right_in, first_in, first_line}
use Rattle.return_source.specs.Lawful.{scenario_count}
use Rattle.parameter_file.specs.Table.{kept_row, place_end}

abbrev pub same_bool : Bool → Bool → Bool
same_bool true b = b
same_bool false b = not b

abbrev pub same_values : List ℤ → List ℤ → Bool
same_values [] [] = true
same_values [] (y ∷ ys) = false
same_values (x ∷ xs) [] = false
same_values (x ∷ xs) (y ∷ ys) = (int_le x y && int_le y x) && same_values xs ys

abbrev pub same_option : {X : Type 0} → (X → X → Bool) → Option X → Option X → Bool
same_option f None None = true
same_option f None (Some y) = false
same_option f (Some x) None = false
same_option f (Some x) (Some y) = f x y

abbrev pub same_entitlement : Entitlement → Entitlement → Bool
same_entitlement a b = a.price == b.price && (a.short == b.short && a.long == b.long)

abbrev pub is_kept_at : ℕ → List ℤ → Option ℕ → Option (List ℤ) → Bool
is_kept_at n kept place row = same_bool (is_some place) (is_some row) && (same_values (kept_row n kept place) (unwrap_or row []) && nat_le (place_end n place) (length kept))

-- what is kept of stock s says what the rows say of it
abbrev pub says : Parameters → List ℤ → List Row → ℕ → StockRows → Bool
says p kept rows s e =
    is_kept_at (scenario_count p Historical) kept e.historical (first_in (returns_in Historical) rows s)
    && (is_kept_at (scenario_count p Stress) kept e.stress (first_in (returns_in Stress) rows s)
    && (same_option nat_eq e.rate (first_in rate_in rows s)
    && (same_option same_entitlement e.dsp (first_in (right_in Dsp) rows s)
    && (same_option same_entitlement e.sri (first_in (right_in Sri) rows s)
    && (same_option same_entitlement e.div (first_in (right_in Div) rows s)
    && same_option nat_eq e.line (first_line 14 rows s))))))
