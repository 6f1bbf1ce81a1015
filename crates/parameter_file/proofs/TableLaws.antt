-- One row more in the table of stocks. Assumes nothing.
use Rattle.std.proofs.Common.{◌≡◌, ℕ, suc, ◌+◌, ◌<◌, Bool, true, false, cond, ◌&&◌, eqb, List, [], ◌∷◌, ◌++◌, length, get_or, take, drop, set, ℤ, is_some, Some, None, Option, sym, refl, ap, ◌∙◌, subst, ⊎_elim, arith}
use Rattle.std.proofs.lemmas.List.{length-append, length-set, get_or-set_same, get_or-set_other, drop_at, drop-append-le, take-append-le, take_all, length-drop}
use Rattle.std.proofs.lemmas.Bool.{true≢false, cond-true, cond-false, eq-eqb, ne_eqb, cases_eq, and_left}
use Rattle.return_source.specs.declared.terms.ScenarioSet.{ScenarioSet}
use Rattle.return_source.specs.declared.terms.ScenarioSet.TheVariants.{Historical, Stress}
use Rattle.return_source.specs.declared.terms.EntitlementType.TheVariants.{Dsp, Sri, Div}
use Rattle.return_source.specs.declared.terms.Parameters.{Parameters}
use Rattle.parameter_file.specs.declared.terms.Found.{Found}
use Rattle.parameter_file.specs.declared.terms.Found.TheVariants as found
use Rattle.parameter_file.specs.declared.terms.StockRows.{StockRows}
use Rattle.file_rules.specs.Rows.{Content, returns, rate, right, unread, Row, returns_in, rate_in, right_in, or_else, first_in, repeated, tiered, first_line}
use Rattle.return_source.specs.Lawful.{scenario_count}
use Rattle.file_rules.specs.Judged.{with_stock}
use Rattle.parameter_file.specs.Table.{no_rows, held, aside, taken, noted, KeptAt, Says, Holds, Blank}

-- rows with one more at their end

or_none : {X : Type 0} (o : Option X) → or_else o None ≡ o
or_none None = refl
or_none (Some x) = refl

or_assoc : {X : Type 0} (a b c : Option X) → or_else a (or_else b c) ≡ or_else (or_else a b) c
or_assoc None b c = refl
or_assoc (Some x) b c = refl

module _ {X : Type 0} (f : Content → Option X) where
  first_push : (rows : List Row) (r : Row) (s : ℕ) → first_in f (rows ++ r ∷ []) s ≡ or_else (first_in f rows s) (cond (eqb r.stock s) (f r.content) None)
  first_push [] r s = or_none _
  first_push (q ∷ rows) r s =
      ap (or_else (cond (eqb q.stock s) (f q.content) None)) (first_push rows r s) ∙ or_assoc (cond (eqb q.stock s) (f q.content) None) (first_in f rows s) _

  -- a row of another stock, of another kind, and the first of its kind

  first_other : (rows : List Row) (r : Row) (s : ℕ) → (r.stock ≡ s → ⊥) → first_in f rows s ≡ first_in f (rows ++ r ∷ []) s
  first_other rows r s n = sym (first_push rows r s ∙ ap (or_else (first_in f rows s)) (cond-false (eqb r.stock s) (f r.content) None (ne_eqb r.stock s n)) ∙ or_none _)

  first_same : (rows : List Row) (s : ℕ) (x : Content) → first_in f (rows ++ with_stock s x ∷ []) s ≡ or_else (first_in f rows s) (f x)
  first_same rows s x = first_push rows (with_stock s x) s ∙ ap (or_else (first_in f rows s)) (cond-true (eqb s s) (f x) None (eq-eqb s s refl))

  first_unlike : (rows : List Row) (s : ℕ) (x : Content) → f x ≡ None → first_in f rows s ≡ first_in f (rows ++ with_stock s x ∷ []) s
  first_unlike rows s x n = sym (first_same rows s x ∙ ap (or_else (first_in f rows s)) n ∙ or_none _)

  first_new : (rows : List Row) (s : ℕ) (x : Content) (v : X) → first_in f rows s ≡ None → f x ≡ Some v → Some v ≡ first_in f (rows ++ with_stock s x ∷ []) s
  first_new rows s x v n e = sym (first_same rows s x ∙ ap (λ (o : Option X). or_else o (f x)) n ∙ e)

line_push : (k : ℕ) (rows : List Row) (r : Row) (s : ℕ) → first_line k (rows ++ r ∷ []) s ≡ or_else (first_line k rows s) (cond (eqb r.stock s && tiered r.content) (Some (k + length rows)) None)
line_push k [] r s = ap (λ (n : ℕ). cond (eqb r.stock s && tiered r.content) (Some n) None) (omega arith)
line_push k (q ∷ rows) r s =
    elim (eqb q.stock s && tiered q.content) as (λ t. cond t (Some k) (first_line (k + 1) (rows ++ r ∷ []) s) ≡ or_else (cond t (Some k) (first_line (k + 1) rows s)) (cond (eqb r.stock s && tiered r.content) (Some (k + suc (length rows))) None)) [
      | true ↦ refl
      | false ↦ line_push (k + 1) rows r s ∙ ap (λ (n : ℕ). or_else (first_line (k + 1) rows s) (cond (eqb r.stock s && tiered r.content) (Some n) None)) (omega arith)
    ]

line_other : (k : ℕ) (rows : List Row) (r : Row) (s : ℕ) → (r.stock ≡ s → ⊥) → first_line k rows s ≡ first_line k (rows ++ r ∷ []) s
line_other k rows r s n =
    sym (line_push k rows r s ∙ ap (or_else (first_line k rows s)) (cond-false (eqb r.stock s && tiered r.content) _ None (and_left (eqb r.stock s) _ (ne_eqb r.stock s n))) ∙ or_none _)

line_same : (k : ℕ) (rows : List Row) (s : ℕ) (x : Content) → first_line k (rows ++ with_stock s x ∷ []) s ≡ or_else (first_line k rows s) (cond (tiered x) (Some (k + length rows)) None)
line_same k rows s x = line_push k rows (with_stock s x) s ∙ ap (λ (b : Bool). or_else (first_line k rows s) (cond (b && tiered x) (Some (k + length rows)) None)) (eq-eqb s s refl)

-- returns kept before stay, and new ones are kept after them

kept_stays : (n : ℕ) (kept more : List ℤ) (place : Option ℕ) (row : Option (List ℤ)) → KeptAt n kept place row → KeptAt n (kept ++ more) place row
kept_stays n kept more None row (a, b, c) = (a, b, omega arith)
kept_stays n kept more (Some start) row (a, b, c) =
    let front : drop start (kept ++ more) ≡ drop start kept ++ more = drop-append-le start kept more (omega arith) in
    let same : take n (drop start kept ++ more) ≡ take n (drop start kept) = take-append-le n (drop start kept) more (omega (arith, length-drop start kept)) in
    (a, ap (take n) front ∙ same ∙ b, omega (arith, length-append kept more))

kept_new : (n : ℕ) (kept vs : List ℤ) → length vs ≡ n → KeptAt n (kept ++ vs) (Some (length kept)) (Some vs)
kept_new n kept vs e = (refl, ap (take n) (drop_at kept vs (length kept) refl) ∙ take_all n vs (omega arith), omega (arith, length-append kept vs))

none_of : {X : Type 0} (o : Option X) → is_some o ≡ false → o ≡ None
none_of None h = refl
none_of (Some x) h = absurd (true≢false h)

kept_as : (n : ℕ) (kept : List ℤ) (place : Option ℕ) (row row' : Option (List ℤ)) → row ≡ row' → KeptAt n kept place row → KeptAt n kept place row'
kept_as n kept place row row' e h = subst (KeptAt n kept place) e h

-- what a row's kind needs of its returns
abbrev pub Whole : Parameters → Found → List ℤ → Type 0
Whole p (found.Returns w) vs = length vs ≡ scenario_count p w
Whole p (found.Rate n) vs = Unit {0}
Whole p (found.Right t e) vs = Unit {0}
Whole p found.Unread vs = Unit {0}

-- a kind is taken exactly where a row of it was seen
pub taken_is : (p : Parameters) (kept : List ℤ) (rows : List Row) (s : ℕ) (e : StockRows) (f : Found) (vs : List ℤ) → Says p kept rows s e → taken e f ≡ repeated rows s (held f vs)
taken_is p kept rows s e (found.Returns Historical) vs h = h.0.0
taken_is p kept rows s e (found.Returns Stress) vs h = h.1.0
taken_is p kept rows s e (found.Rate n) vs h = ap is_some h.2
taken_is p kept rows s e (found.Right Dsp x) vs h = ap is_some h.3
taken_is p kept rows s e (found.Right Sri x) vs h = ap is_some h.4
taken_is p kept rows s e (found.Right Div x) vs h = ap is_some h.5
taken_is p kept rows s e found.Unread vs h = refl

module _ (p : Parameters) (kept : List ℤ) (rows : List Row) (s : ℕ) (e : StockRows) (h : Says p kept rows s e) where
  says_other : (more : List ℤ) (r : Row) → (r.stock ≡ s → ⊥) → Says p (kept ++ more) (rows ++ r ∷ []) s e
  says_other more r n = (
    kept_as _ _ e.historical _ _ (first_other (returns_in Historical) rows r s n) (kept_stays _ kept more e.historical _ h.0),
    kept_as _ _ e.stress _ _ (first_other (returns_in Stress) rows r s n) (kept_stays _ kept more e.stress _ h.1),
    h.2 ∙ first_other rate_in rows r s n,
    h.3 ∙ first_other (right_in Dsp) rows r s n,
    h.4 ∙ first_other (right_in Sri) rows r s n,
    h.5 ∙ first_other (right_in Div) rows r s n,
    h.6 ∙ line_other 14 rows r s n,
  )

  -- the parts that a row of another kind leaves
  module _ (x : Content) (more : List ℤ) where
    after : List Row
    after = rows ++ with_stock s x ∷ []

    old_returns : (w : ScenarioSet) (place : Option ℕ) → returns_in w x ≡ None → KeptAt (scenario_count p w) kept place (first_in (returns_in w) rows s) → KeptAt (scenario_count p w) (kept ++ more) place (first_in (returns_in w) (rows ++ with_stock s x ∷ []) s)
    old_returns w place n k = kept_as _ _ place _ _ (first_unlike (returns_in w) rows s x n) (kept_stays _ kept more place _ k)

    old_line : tiered x ≡ false → e.line ≡ first_line 14 (rows ++ with_stock s x ∷ []) s
    old_line n = h.6 ∙ sym (line_same 14 rows s x ∙ ap (λ (b : Bool). or_else (first_line 14 rows s) (cond b (Some (14 + length rows)) None)) n ∙ or_none _)

    new_line : (k : ℕ) → k ≡ 14 + length rows → tiered x ≡ true → or_else e.line (Some k) ≡ first_line 14 (rows ++ with_stock s x ∷ []) s
    new_line k q y = ap (λ (o : Option ℕ). or_else o (Some k)) h.6 ∙ ap (λ (n : ℕ). or_else (first_line 14 rows s) (Some n)) q ∙ sym (line_same 14 rows s x ∙ ap (λ (b : Bool). or_else (first_line 14 rows s) (cond b (Some (14 + length rows)) None)) y)

  new_returns : (w : ScenarioSet) (vs : List ℤ) → length vs ≡ scenario_count p w → is_some (first_in (returns_in w) rows s) ≡ false → returns_in w (returns w vs) ≡ Some vs → KeptAt (scenario_count p w) (kept ++ vs) (Some (length kept)) (first_in (returns_in w) (rows ++ with_stock s (returns w vs) ∷ []) s)
  new_returns w vs l n y = kept_as _ _ (Some (length kept)) _ _ (first_new (returns_in w) rows s (returns w vs) vs (none_of _ n) y) (kept_new (scenario_count p w) kept vs l)

  says_same : (f : Found) (vs : List ℤ) (k : ℕ) → k ≡ 14 + length rows → Whole p f vs → taken e f ≡ false → Says p (kept ++ aside f vs) (rows ++ with_stock s (held f vs) ∷ []) s (noted e f (length kept) k)
  says_same (found.Returns Historical) vs k q l n =
      let x = returns Historical vs in (
        new_returns Historical vs l (sym h.0.0 ∙ n) refl,
        old_returns x vs Stress e.stress refl h.1,
        h.2 ∙ first_unlike rate_in rows s x refl,
        h.3 ∙ first_unlike (right_in Dsp) rows s x refl,
        h.4 ∙ first_unlike (right_in Sri) rows s x refl,
        h.5 ∙ first_unlike (right_in Div) rows s x refl,
        new_line x vs k q refl,
      )
  says_same (found.Returns Stress) vs k q l n =
      let x = returns Stress vs in (
        old_returns x vs Historical e.historical refl h.0,
        new_returns Stress vs l (sym h.1.0 ∙ n) refl,
        h.2 ∙ first_unlike rate_in rows s x refl,
        h.3 ∙ first_unlike (right_in Dsp) rows s x refl,
        h.4 ∙ first_unlike (right_in Sri) rows s x refl,
        h.5 ∙ first_unlike (right_in Div) rows s x refl,
        new_line x vs k q refl,
      )
  says_same (found.Rate m) vs k q l n =
      let x = rate m in (
        old_returns x [] Historical e.historical refl h.0,
        old_returns x [] Stress e.stress refl h.1,
        first_new rate_in rows s x m (none_of _ (sym (ap is_some h.2) ∙ n)) refl,
        h.3 ∙ first_unlike (right_in Dsp) rows s x refl,
        h.4 ∙ first_unlike (right_in Sri) rows s x refl,
        h.5 ∙ first_unlike (right_in Div) rows s x refl,
        new_line x [] k q refl,
      )
  says_same (found.Right Dsp y) vs k q l n =
      let x = right Dsp y in (
        old_returns x [] Historical e.historical refl h.0,
        old_returns x [] Stress e.stress refl h.1,
        h.2 ∙ first_unlike rate_in rows s x refl,
        first_new (right_in Dsp) rows s x y (none_of _ (sym (ap is_some h.3) ∙ n)) refl,
        h.4 ∙ first_unlike (right_in Sri) rows s x refl,
        h.5 ∙ first_unlike (right_in Div) rows s x refl,
        old_line x [] refl,
      )
  says_same (found.Right Sri y) vs k q l n =
      let x = right Sri y in (
        old_returns x [] Historical e.historical refl h.0,
        old_returns x [] Stress e.stress refl h.1,
        h.2 ∙ first_unlike rate_in rows s x refl,
        h.3 ∙ first_unlike (right_in Dsp) rows s x refl,
        first_new (right_in Sri) rows s x y (none_of _ (sym (ap is_some h.4) ∙ n)) refl,
        h.5 ∙ first_unlike (right_in Div) rows s x refl,
        old_line x [] refl,
      )
  says_same (found.Right Div y) vs k q l n =
      let x = right Div y in (
        old_returns x [] Historical e.historical refl h.0,
        old_returns x [] Stress e.stress refl h.1,
        h.2 ∙ first_unlike rate_in rows s x refl,
        h.3 ∙ first_unlike (right_in Dsp) rows s x refl,
        h.4 ∙ first_unlike (right_in Sri) rows s x refl,
        first_new (right_in Div) rows s x y (none_of _ (sym (ap is_some h.5) ∙ n)) refl,
        old_line x [] refl,
      )
  says_same found.Unread vs k q l n =
      let x = unread in (
        old_returns x [] Historical e.historical refl h.0,
        old_returns x [] Stress e.stress refl h.1,
        h.2 ∙ first_unlike rate_in rows s x refl,
        h.3 ∙ first_unlike (right_in Dsp) rows s x refl,
        h.4 ∙ first_unlike (right_in Sri) rows s x refl,
        h.5 ∙ first_unlike (right_in Div) rows s x refl,
        old_line x [] refl,
      )

-- the whole table with one row more
pub holds_more : (p : Parameters) (kept : List ℤ) (table : List StockRows) (rows : List Row) (s : ℕ) (f : Found) (vs : List ℤ) (k : ℕ) → Holds p kept table rows → s < length table → k ≡ 14 + length rows → Whole p f vs → taken (get_or table s no_rows) f ≡ false → Holds p (kept ++ aside f vs) (set table s (noted (get_or table s no_rows) f (length kept) k)) (rows ++ with_stock s (held f vs) ∷ [])
holds_more p kept table rows s f vs k h l q w n z m =
    let e = get_or table s no_rows in
    let new = noted e f (length kept) k in
    let inside : z < length table = omega (arith, length-set table s new) in
    let after = rows ++ with_stock s (held f vs) ∷ [] in
    ⊎_elim
    (λ (y : z ≡ s).
    subst (λ (i : ℕ). Says p (kept ++ aside f vs) after i (get_or (set table s new) i no_rows)) (sym y)
    (subst (Says p (kept ++ aside f vs) after s) (sym (get_or-set_same table s new no_rows l)) (says_same p kept rows s e (h s l) f vs k q w n)))
    (λ (y : z ≡ s → ⊥).
    subst (Says p (kept ++ aside f vs) after z) (sym (get_or-set_other table s z new no_rows y)) (says_other p kept rows z (get_or table z no_rows) (h z inside) (aside f vs) (with_stock s (held f vs)) (λ i. y (sym i))))
    (cases_eq z s)

-- a table of stocks without rows
pub holds_none : (p : Parameters) (table : List StockRows) → Blank table → Holds p [] table []
holds_none p table b s l = subst (Says p [] [] s) (sym (b s l)) ((refl, refl, omega arith), (refl, refl, omega arith), refl, refl, refl, refl, refl)
