-- The test of what is kept of a stock passes exactly where its statement holds. Assumes nothing.
use Rattle.std.proofs.Common.{◌≡◌, ℕ, Bool, true, false, ◌&&◌, eqb, List, [], ◌∷◌, length, ℤ, ◌≤ℤ◌, is_some, Some, None, Option, unwrap_or, sym, refl, ap, ◌∙◌, subst, arith}
use borrow.Author.Differences.{ints}
use lib.Signed.{le_z}
use Rattle.std.proofs.lemmas.Bool.{false≢true, and_parts, and_from, eqb-true, eq-eqb, leb-true, le-leb}
use Rattle.parameter_text.proofs.DecimalLaws.{le_z_fact, le_z_true}
use Rattle.return_source.specs.declared.terms.ScenarioSet.TheVariants.{Historical, Stress}
use Rattle.return_source.specs.declared.terms.EntitlementType.TheVariants.{Dsp, Sri, Div}
use Rattle.return_source.specs.declared.terms.Entitlement.{Entitlement}
use Rattle.return_source.specs.declared.terms.Parameters.{Parameters}
use Rattle.parameter_file.specs.declared.terms.StockRows.{StockRows}
use Rattle.file_rules.specs.Rows.{Row, returns_in, rate_in, right_in, first_in, first_line}
use Rattle.return_source.specs.Lawful.{scenario_count}
use Rattle.parameter_file.specs.Table.{kept_row, place_end, KeptAt, Says}
use Rattle.parameter_file.specs.Tests.{same_bool, same_values, same_option, same_entitlement, is_kept_at, says}

bool_fact : (a b : Bool) → same_bool a b ≡ true → a ≡ b
bool_fact true b h = sym h
bool_fact false true h = absurd (false≢true h)
bool_fact false false h = refl

bool_true : (a b : Bool) → a ≡ b → same_bool a b ≡ true
bool_true true b h = sym h
bool_true false true h = absurd (false≢true h)
bool_true false false h = refl

both_le : (x y : ℤ) → x ≤ℤ y → y ≤ℤ x → x ≡ y
both_le x y a b = omega (arith, ints)

le_same : (x y : ℤ) → x ≡ y → (x ≤ℤ y) × (y ≤ℤ x)
le_same x y e = (let k : x ≤ℤ y = omega (arith, ints) in k, let k : y ≤ℤ x = omega (arith, ints) in k)

values_fact : (xs ys : List ℤ) → same_values xs ys ≡ true → xs ≡ ys
values_fact [] [] h = refl
values_fact [] (y ∷ ys) h = absurd (false≢true h)
values_fact (x ∷ xs) [] h = absurd (false≢true h)
values_fact (x ∷ xs) (y ∷ ys) h =
    let p = and_parts (le_z x y && le_z y x) _ h in
    let q = and_parts (le_z x y) _ p.0 in
    ap (λ (z : ℤ). z ∷ xs) (both_le x y (le_z_fact x y q.0) (le_z_fact y x q.1)) ∙ ap (λ (l : List ℤ). y ∷ l) (values_fact xs ys p.1)

values_same : (xs : List ℤ) → same_values xs xs ≡ true
values_same [] = refl
values_same (x ∷ xs) = let l = le_same x x refl in and_from (le_z x x && le_z x x) _ (and_from (le_z x x) _ (le_z_true x x l.0) (le_z_true x x l.1)) (values_same xs)

values_true : (xs ys : List ℤ) → xs ≡ ys → same_values xs ys ≡ true
values_true xs ys e = subst (λ (l : List ℤ). same_values xs l ≡ true) e (values_same xs)

module _ {X : Type 0} (f : X → X → Bool) where
  option_fact : ((x y : X) → f x y ≡ true → x ≡ y) → (o p : Option X) → same_option f o p ≡ true → o ≡ p
  option_fact t None None h = refl
  option_fact t None (Some y) h = absurd (false≢true h)
  option_fact t (Some x) None h = absurd (false≢true h)
  option_fact t (Some x) (Some y) h = ap Some (t x y h)

  option_same : ((x : X) → f x x ≡ true) → (o : Option X) → same_option f o o ≡ true
  option_same t None = refl
  option_same t (Some x) = t x

  option_true : ((x : X) → f x x ≡ true) → (o p : Option X) → o ≡ p → same_option f o p ≡ true
  option_true t o p e = subst (λ (q : Option X). same_option f o q ≡ true) e (option_same t o)

entitlement_fact : (a b : Entitlement) → same_entitlement a b ≡ true → a ≡ b
entitlement_fact a b h =
    let p = and_parts (eqb a.price b.price) _ h in
    let q = and_parts (eqb a.short b.short) _ p.1 in
    ap (λ (n : ℕ). record { price = n; short = a.short; long = a.long }) (eqb-true a.price b.price p.0)
    ∙ ap (λ (n : ℕ). record { price = b.price; short = n; long = a.long }) (eqb-true a.short b.short q.0)
    ∙ ap (λ (n : ℕ). record { price = b.price; short = b.short; long = n }) (eqb-true a.long b.long q.1)

number_same : (n : ℕ) → eqb n n ≡ true
number_same n = eq-eqb n n refl

entitlement_same : (a : Entitlement) → same_entitlement a a ≡ true
entitlement_same a = and_from (eqb a.price a.price) _ (number_same a.price) (and_from (eqb a.short a.short) _ (number_same a.short) (number_same a.long))

kept_fact : (n : ℕ) (kept : List ℤ) (place : Option ℕ) (row : Option (List ℤ)) → is_kept_at n kept place row ≡ true → KeptAt n kept place row
kept_fact n kept place row h =
    let p = and_parts (same_bool (is_some place) (is_some row)) _ h in
    let q = and_parts (same_values (kept_row n kept place) (unwrap_or row [])) _ p.1 in
    (bool_fact (is_some place) (is_some row) p.0, values_fact _ _ q.0, leb-true (place_end n place) (length kept) q.1)

kept_true : (n : ℕ) (kept : List ℤ) (place : Option ℕ) (row : Option (List ℤ)) → KeptAt n kept place row → is_kept_at n kept place row ≡ true
kept_true n kept place row h =
    and_from (same_bool (is_some place) (is_some row)) _ (bool_true _ _ h.0) (and_from (same_values (kept_row n kept place) (unwrap_or row [])) _ (values_true _ _ h.1) (le-leb (place_end n place) (length kept) h.2))

module _ (p : Parameters) (kept : List ℤ) (rows : List Row) (s : ℕ) (e : StockRows) where
  abbrev H : Bool
  H = is_kept_at (scenario_count p Historical) kept e.historical (first_in (returns_in Historical) rows s)

  abbrev T : Bool
  T = is_kept_at (scenario_count p Stress) kept e.stress (first_in (returns_in Stress) rows s)

  abbrev R : Bool
  R = same_option eqb e.rate (first_in rate_in rows s)

  abbrev A : Bool
  A = same_option same_entitlement e.dsp (first_in (right_in Dsp) rows s)

  abbrev B : Bool
  B = same_option same_entitlement e.sri (first_in (right_in Sri) rows s)

  abbrev C : Bool
  C = same_option same_entitlement e.div (first_in (right_in Div) rows s)

  abbrev L : Bool
  L = same_option eqb e.line (first_line 14 rows s)

  pub says_fact : says p kept rows s e ≡ true → Says p kept rows s e
  says_fact h =
      let a = and_parts H (T && (R && (A && (B && (C && L))))) h in
      let b = and_parts T (R && (A && (B && (C && L)))) a.1 in
      let c = and_parts R (A && (B && (C && L))) b.1 in
      let d = and_parts A (B && (C && L)) c.1 in
      let f = and_parts B (C && L) d.1 in
      let g = and_parts C L f.1 in (
        kept_fact _ kept e.historical _ a.0,
        kept_fact _ kept e.stress _ b.0,
        option_fact eqb eqb-true e.rate _ c.0,
        option_fact same_entitlement entitlement_fact e.dsp _ d.0,
        option_fact same_entitlement entitlement_fact e.sri _ f.0,
        option_fact same_entitlement entitlement_fact e.div _ g.0,
        option_fact eqb eqb-true e.line _ g.1,
      )

  pub says_true : Says p kept rows s e → says p kept rows s e ≡ true
  says_true h =
      and_from H _ (kept_true _ kept e.historical _ h.0)
      (and_from T _ (kept_true _ kept e.stress _ h.1)
      (and_from R _ (option_true eqb number_same e.rate _ h.2)
      (and_from A _ (option_true same_entitlement entitlement_same e.dsp _ h.3)
      (and_from B _ (option_true same_entitlement entitlement_same e.sri _ h.4)
      (and_from C _ (option_true same_entitlement entitlement_same e.div _ h.5) (option_true eqb number_same e.line _ h.6))))))
