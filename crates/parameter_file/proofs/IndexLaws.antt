-- What a checked file's index says of each stock. Assumes nothing.
use Rattle.std.proofs.Common.{◌≡◌, ℕ, ◌+◌, ◌<◌, ◌≤◌, Bool, true, false, cond, ◌&&◌, eqb, List, [], ◌∷◌, length, get_or, take, drop, ℤ, is_some, is_ok, Some, None, Ok, Err, Option, Result, unwrap_or, sym, refl, ap, ◌∙◌, subst, ⊎_elim, arith}
use Rattle.std.specs.List.{AllByRecursion as All}
use Rattle.std.proofs.lemmas.Bool.{true≢false, false≢true, cond-false, ne_eqb, and_left, cases_lt}
use Rattle.std.proofs.lemmas.List.{get_or_past}
use Rattle.return_source.specs.declared.terms.Parameters.{Parameters}
use Rattle.return_source.specs.declared.terms.ScenarioSet.{ScenarioSet}
use Rattle.return_source.specs.declared.terms.ScenarioSet.TheVariants.{Historical, Stress}
use Rattle.return_source.specs.declared.terms.EntitlementType.{EntitlementType}
use Rattle.return_source.specs.declared.terms.EntitlementType.TheVariants.{Dsp, Sri, Div}
use Rattle.parameter_heading.specs.declared.terms.Fault.{Fault}
use Rattle.parameter_heading.specs.declared.terms.Heading.{Heading}
use Rattle.parameter_file.specs.declared.terms.StockRows.{StockRows}
use Rattle.file_rules.specs.Rows.{Content, Row, File, returns_in, rate_in, right_in, or_else, first_in, tiered, first_line}
use Rattle.return_source.specs.Lawful.{scenario_count}
use Rattle.file_rules.specs.Judged.{stock_places, verdict}
use Rattle.file_rules.specs.Laid.{LaysRows}
use Rattle.parameter_file.specs.Table.{no_rows, place_in, right_kept, KeptAt, Says}
use Rattle.parameter_file.specs.Checked.{rows_in, heading_in, indexes, Indexed, place_from, Places}
use Rattle.file_rules.proofs.FileLaws.{passes_down}
use Rattle.parameter_file.proofs.TestLaws.{says_fact}

indexed : (v : Result File Fault) (kept : List ℤ) (table : List StockRows) (h : Heading) (s : ℕ) → is_ok v ≡ true → h ≡ heading_in v h → indexes v kept table s ≡ true → Says h.parameters kept (rows_in v) s (get_or table s no_rows)
indexed (Ok f) kept table h s ok e t = subst (λ (x : Heading). Says x.parameters kept f.rows s (get_or table s no_rows)) (sym e) (says_fact f.heading.parameters kept f.rows s (get_or table s no_rows) t)
indexed (Err x) kept table h s ok e t = absurd (false≢true ok)

-- a stock that has a place
pub place_says : (bytes : List ℕ) (kept : List ℤ) (table : List StockRows) (h : Heading) → is_ok (verdict bytes) ≡ true → h ≡ heading_in (verdict bytes) h → Indexed bytes kept table → (s : ℕ) → s < length table → Says h.parameters kept (rows_in (verdict bytes)) s (get_or table s no_rows)
place_says bytes kept table h ok e i s l = indexed (verdict bytes) kept table h s ok e (i s l)

-- a number that no stock has

laid_within : (p : Parameters) (ls : List (List ℕ)) (rs : List Row) → LaysRows p ls rs → All (λ (r : Row). r.stock < stock_places) rs
laid_within p [] [] l = tt
laid_within p [] (r ∷ rs) l = absurd l
laid_within p (x ∷ ls) [] l = absurd l
laid_within p (x ∷ ls) (r ∷ rs) l = (omega (arith, l.0.4.stock.number_of.at_most), laid_within p ls rs l.1)

verdict_within : (bytes : List ℕ) (v : Result File Fault) → verdict bytes ≡ v → All (λ (r : Row). r.stock < stock_places) (rows_in v)
verdict_within bytes (Ok f) e = let d = passes_down bytes f e in laid_within f.heading.parameters d.0 f.rows d.1.rows
verdict_within bytes (Err x) e = tt

first_beyond : {X : Type 0} (f : Content → Option X) (rows : List Row) (s : ℕ) → stock_places ≤ s → All (λ (r : Row). r.stock < stock_places) rows → first_in f rows s ≡ None
first_beyond f [] s h a = refl
first_beyond f (r ∷ rs) s h a =
    let no : eqb r.stock s ≡ false = ne_eqb r.stock s (λ e. omega (arith, a.0)) in
    ap (λ (b : Bool). or_else (cond b (f r.content) None) (first_in f rs s)) no ∙ first_beyond f rs s h a.1

line_beyond : (k : ℕ) (rows : List Row) (s : ℕ) → stock_places ≤ s → All (λ (r : Row). r.stock < stock_places) rows → first_line k rows s ≡ None
line_beyond k [] s h a = refl
line_beyond k (r ∷ rs) s h a =
    let no : eqb r.stock s ≡ false = ne_eqb r.stock s (λ e. omega (arith, a.0)) in
    cond-false (eqb r.stock s && tiered r.content) _ _ (and_left (eqb r.stock s) _ no) ∙ line_beyond (k + 1) rs s h a.1

none_kept : (n : ℕ) (kept : List ℤ) (row : Option (List ℤ)) → row ≡ None → KeptAt n kept None row
none_kept n kept row e = (sym (ap is_some e), sym (ap (λ (o : Option (List ℤ)). unwrap_or o []) e), omega arith)

pub beyond_says : (bytes : List ℕ) (kept : List ℤ) (p : Parameters) (s : ℕ) → stock_places ≤ s → Says p kept (rows_in (verdict bytes)) s no_rows
beyond_says bytes kept p s h =
    let rows = rows_in (verdict bytes) in
    let a = verdict_within bytes (verdict bytes) refl in (
      none_kept (scenario_count p Historical) kept _ (first_beyond (returns_in Historical) rows s h a),
      none_kept (scenario_count p Stress) kept _ (first_beyond (returns_in Stress) rows s h a),
      sym (first_beyond rate_in rows s h a),
      sym (first_beyond (right_in Dsp) rows s h a),
      sym (first_beyond (right_in Sri) rows s h a),
      sym (first_beyond (right_in Div) rows s h a),
      sym (line_beyond 14 rows s h a),
    )

-- the returns at a place
pub places_at : (n : ℕ) (kept : List ℤ) (place : Option ℕ) (row : Option (List ℤ)) → KeptAt n kept place row → Places kept row (place_from place n)
places_at n kept None None k = refl
places_at n kept None (Some vs) k = absurd (false≢true k.0)
places_at n kept (Some start) None k = absurd (true≢false k.0)
places_at n kept (Some start) (Some vs) k = (ap Some k.1, k.2)

-- every stock, of a number that has a place and of one that has none
pub index_says : (bytes : List ℕ) (kept : List ℤ) (table : List StockRows) (h : Heading) → is_ok (verdict bytes) ≡ true → h ≡ heading_in (verdict bytes) h → length table ≡ stock_places → Indexed bytes kept table → (s : ℕ) → Says h.parameters kept (rows_in (verdict bytes)) s (get_or table s no_rows)
index_says bytes kept table h ok e size i s =
    ⊎_elim
    (λ (l : s < length table). place_says bytes kept table h ok e i s l)
    (λ (l : length table ≤ s). subst (Says h.parameters kept (rows_in (verdict bytes)) s) (sym (get_or_past table s no_rows l)) (beyond_says bytes kept h.parameters s (omega arith)))
    (cases_lt s (length table))

-- the returns in a set, and the entitlement of a type
module _ (p : Parameters) (kept : List ℤ) (rows : List Row) (s : ℕ) (e : StockRows) (h : Says p kept rows s e) where
  pub returns_said : (w : ScenarioSet) → KeptAt (scenario_count p w) kept (place_in e w) (first_in (returns_in w) rows s)
  returns_said Historical = h.0
  returns_said Stress = h.1

  pub right_said : (t : EntitlementType) → right_kept e t ≡ first_in (right_in t) rows s
  right_said Dsp = h.3
  right_said Sri = h.4
  right_said Div = h.5

-- the returns at a place, or none where there is no place
module _ (n : ℕ) (kept : List ℤ) (place : Option ℕ) (row : Option (List ℤ)) (k : KeptAt n kept place row) where
  pub none_at : None ≡ place → None ≡ row
  none_at e = subst (λ (o : Option ℕ). Places kept row (place_from o n)) (sym e) (places_at n kept place row k)

  pub some_at : (start : ℕ) → Some start ≡ place → (Some (take n (drop start kept)) ≡ row) × (start + n ≤ length kept)
  some_at start e = subst (λ (o : Option ℕ). Places kept row (place_from o n)) (sym e) (places_at n kept place row k)
