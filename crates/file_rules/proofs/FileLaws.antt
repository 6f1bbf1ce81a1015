-- A file passes exactly where its bytes lay it down. Assumes nothing.
use Rattle.std.proofs.Common.{◌≡◌, ℕ, zero, suc, ◌+◌, ◌<◌, Bool, true, false, cond, ◌&&◌, eqb, leb, List, [], ◌∷◌, ◌++◌, length, ℤ, is_some, Some, None, Ok, Option, Result, sym, refl, ap, ◌∙◌, subst, ⊎_elim, add-one, arith}
use Rattle.std.specs.List.{AllByRecursion as All}
use Rattle.std.proofs.lemmas.List.{append_assoc, append-nil}
use Rattle.std.proofs.lemmas.Bool.{true≢false, false≢true, both_ways, cond-true, cond-false, and_parts, and_from, leb-true, le-leb, eqb-true, eq-eqb, cases_Bool, cases_eq}
use Rattle.parameter_text.specs.declared.terms.Question.{Question}
use Rattle.parameter_text.specs.declared.terms.Question.TheVariants.{Length, First, Tier}
use Rattle.parameter_text.specs.Questions.{and_then}
use Rattle.parameter_text.specs.Cuts.{lines}
use Rattle.parameter_text.proofs.DigitLaws.{ok_not_err, ok_same, ok_cond}
use Rattle.return_source.specs.declared.terms.Parameters.{Parameters}
use Rattle.return_source.specs.declared.terms.ScenarioSet.{ScenarioSet}
use Rattle.return_source.specs.declared.terms.ScenarioSet.TheVariants.{Historical, Stress}
use Rattle.parameter_heading.specs.declared.terms.Fault.{Fault}
use Rattle.parameter_heading.specs.declared.terms.Heading.{Heading}
use Rattle.parameter_heading.specs.Lines.{fault_at}
use Rattle.parameter_heading.specs.Headings.{heading}
use Rattle.parameter_heading.proofs.HeadingLaws.{headings_pass}
use Rattle.file_rules.specs.Rows.{Content, returns, rate, right, unread, Row, File, returns_in, rate_in, right_in, or_else, first_in, repeated, unfit, uneven, tiered, first_line, fault_line, earlier, earliest}
use Rattle.file_rules.specs.Judged.{most_bytes, stock_places, row_line, if_first, next_row, row_at, rows_from, if_even, fitting, sized, after_heading, verdict}
use Rattle.file_rules.specs.Laid.{LaysRow, LaysRows, alike, NoneAlike, Firsts, Fit, LaysDown, FilesPass}
use Rattle.file_rules.proofs.Answered.{then_ok, at_ok, unless_ok}
use Rattle.file_rules.proofs.RowLaws.{row_passes, passes_row}

-- the first of its kind

module _ {X : Type 0} (f : Content → Option X) where
  some_none : (o p : Option X) → (is_some o ≡ true → ⊥) → is_some p ≡ false → is_some (or_else o p) ≡ false
  some_none None p n h = h
  some_none (Some x) p n h = absurd (n refl)

  none_first : (rows : List Row) (s : ℕ) → All (λ (q : Row). q.stock ≡ s → is_some (f q.content) ≡ true → ⊥) rows → is_some (first_in f rows s) ≡ false
  none_first [] s h = refl
  none_first (r ∷ rs) s h =
      elim (eqb r.stock s) as (λ t. eqb r.stock s ≡ t → is_some (or_else (cond t (f r.content) None) (first_in f rs s)) ≡ false) [
        | true ↦ λ e. some_none (f r.content) (first_in f rs s) (h.0 (eqb-true r.stock s e)) (none_first rs s h.1)
        | false ↦ λ _. none_first rs s h.1
      ]
      refl

  none_parts : (o p : Option X) → is_some (or_else o p) ≡ false → (is_some o ≡ false) × (is_some p ≡ false)
  none_parts None p h = (refl, h)
  none_parts (Some x) p h = absurd (true≢false h)

  first_none : (rows : List Row) (s : ℕ) → is_some (first_in f rows s) ≡ false → All (λ (q : Row). q.stock ≡ s → is_some (f q.content) ≡ true → ⊥) rows
  first_none [] s h = tt
  first_none (r ∷ rs) s h =
      let parts = none_parts (cond (eqb r.stock s) (f r.content) None) (first_in f rs s) h in
      (λ e y. both_ways _ (sym (ap is_some (cond-true (eqb r.stock s) (f r.content) None (eq-eqb r.stock s e))) ∙ parts.0) y, first_none rs s parts.1)

fresh : (done : List Row) (s : ℕ) (x : Content) → All (λ (q : Row). q.stock ≡ s → alike x q.content ≡ true → ⊥) done → repeated done s x ≡ false
fresh done s (returns w xs) h = none_first (returns_in w) done s h
fresh done s (rate n) h = none_first rate_in done s h
fresh done s (right t e) h = none_first (right_in t) done s h
fresh done s unread h = refl

any_row : (done : List Row) (s : ℕ) → All (λ (q : Row). q.stock ≡ s → false ≡ true → ⊥) done
any_row [] s = tt
any_row (q ∷ done) s = (λ _ y. false≢true y, any_row done s)

none_before : (done : List Row) (s : ℕ) (x : Content) → repeated done s x ≡ false → All (λ (q : Row). q.stock ≡ s → alike x q.content ≡ true → ⊥) done
none_before done s (returns w xs) h = first_none (returns_in w) done s h
none_before done s (rate n) h = first_none rate_in done s h
none_before done s (right t e) h = first_none (right_in t) done s h
none_before done s unread h = any_row done s

-- all lines after the heading

pub rows_pass : (p : Parameters) (k : ℕ) (done : List Row) (ls : List (List ℕ)) (rs : List Row) → LaysRows p ls rs → Firsts done rs → rows_from p k done ls ≡ Ok (done ++ rs)
rows_pass p k done [] [] l f = ap Ok (sym (append-nil done))
rows_pass p k done [] (r ∷ rs) l f = absurd l
rows_pass p k done (x ∷ ls) [] l f = absurd l
rows_pass p k done (x ∷ ls) (r ∷ rs) l f =
    let one = row_passes p x r l.0 in
    let first : if_first done r ≡ Ok r = cond-false (repeated done r.stock r.content) _ _ (fresh done r.stock r.content f.0) in
    let next : next_row p done x ≡ Ok r = ap (λ (y : Result Row Question). and_then y (if_first done)) one ∙ first in
    ap (λ (y : Result Row Question). and_then (row_at k y) (λ (q : Row). rows_from p (k + 1) (done ++ q ∷ []) ls)) next
    ∙ rows_pass p (k + 1) (done ++ r ∷ []) ls rs l.1 f.1
    ∙ ap Ok (append_assoc done (r ∷ []) rs)

pub pass_rows : (p : Parameters) (k : ℕ) (done : List Row) (ls : List (List ℕ)) (all : List Row) → rows_from p k done ls ≡ Ok all → (rs : List Row) × (all ≡ done ++ rs) × LaysRows p ls rs × Firsts done rs
pass_rows p k done [] all h = ([], sym (ok_same done all h) ∙ sym (append-nil done), tt, tt)
pass_rows p k done (x ∷ ls) all h =
    let one = then_ok (row_at k (next_row p done x)) (λ (q : Row). rows_from p (k + 1) (done ++ q ∷ []) ls) all h in
    let r = one.0 in
    let two = then_ok (row_line p x) (if_first done) r (at_ok k (next_row p done x) r one.1) in
    let three = unless_ok (repeated done two.0.stock two.0.content) First two.0 r two.2 in
    let laid : LaysRow p x r = subst (LaysRow p x) three.1 (passes_row p x two.0 two.1) in
    let alone : NoneAlike done r = subst (NoneAlike done) three.1 (none_before done two.0.stock two.0.content three.0) in
    let rest = pass_rows p (k + 1) (done ++ r ∷ []) ls all one.2 in
    (r ∷ rest.0, rest.1 ∙ append_assoc done (r ∷ []) rest.0, (laid, rest.2), (alone, rest.3))

-- the rows of each stock

unfit_not : (h s f : Bool) → h ≡ s → (h ≡ true → f ≡ false) → unfit h s f ≡ false
unfit_not true true true e n = absurd (true≢false (n refl))
unfit_not true true false e n = refl
unfit_not true false f e n = absurd (true≢false e)
unfit_not false true f e n = absurd (false≢true e)
unfit_not false false f e n = refl

not_unfit : (h s f : Bool) → unfit h s f ≡ false → (h ≡ s) × (h ≡ true → f ≡ false)
not_unfit true true true e = absurd (true≢false e)
not_unfit true true false e = (refl, λ _. refl)
not_unfit true false f e = absurd (true≢false e)
not_unfit false true f e = absurd (true≢false e)
not_unfit false false f e = (refl, λ y. absurd (false≢true y))

pub earliest_none : (f : ℕ → Option ℕ) → (n : ℕ) → ((s : ℕ) → s < n → f s ≡ None) → earliest f n ≡ None
unfolding earliest
earliest_none f zero h = refl
earliest_none f (suc n) h = ap (λ (o : Option ℕ). earlier o (f n)) (earliest_none f n (λ s l. h s (omega arith))) ∙ h n (omega arith)

pub earliest_zero : (f : ℕ → Option ℕ) → earliest f 0 ≡ None
unfolding earliest
earliest_zero f = refl

pub earliest_more : (f : ℕ → Option ℕ) (n : ℕ) → earliest f (n + 1) ≡ earlier (earliest f n) (f n)
unfolding earliest
earliest_more f n = rw add-one refl

pub earliest_same : (f g : ℕ → Option ℕ) (n : ℕ) → ((s : ℕ) → s < n → f s ≡ g s) → earliest f n ≡ earliest g n
unfolding earliest
earliest_same f g zero h = refl
earliest_same f g (suc n) h = ap (λ (o : Option ℕ). earlier o (f n)) (earliest_same f g n (λ s l. h s (omega arith))) ∙ ap (earlier (earliest g n)) (h n (omega arith))

earlier_none : (o p : Option ℕ) → earlier o p ≡ None → (o ≡ None) × (p ≡ None)
earlier_none None p h = (refl, h)
earlier_none (Some a) None h = absurd (let z : ◌≡◌ {A = ℕ} 0 1 = cc in omega arith)
earlier_none (Some a) (Some b) h = absurd (let z : ◌≡◌ {A = ℕ} 0 1 = cc in omega arith)

pub none_earliest : (f : ℕ → Option ℕ) (n : ℕ) → earliest f n ≡ None → (s : ℕ) → s < n → f s ≡ None
unfolding earliest
none_earliest f zero h s l = absurd (omega arith)
none_earliest f (suc n) h s l =
    let parts = earlier_none (earliest f n) (f n) h in
    ⊎_elim (λ (e : s ≡ n). ap f e ∙ parts.1) (λ (ne : s ≡ n → ⊥). none_earliest f n parts.0 s (omega (arith, ne))) (cases_eq s n)

-- a stock that has returns has a first line

untiered : (w : ScenarioSet) (x : Content) → tiered x ≡ false → returns_in w x ≡ None
untiered w (returns v xs) h = absurd (true≢false h)
untiered w (rate n) h = absurd (true≢false h)
untiered w (right t e) h = refl
untiered w unread h = refl

cond_none : (b : Bool) (k : ℕ) (o : Option ℕ) → cond b (Some k) o ≡ None → (b ≡ false) × (o ≡ None)
cond_none true k o h = absurd (let z : ◌≡◌ {A = ℕ} 0 1 = cc in omega arith)
cond_none false k o h = (refl, h)

has_line : (k : ℕ) (rows : List Row) (s : ℕ) → first_line k rows s ≡ None → (w : ScenarioSet) → is_some (first_in (returns_in w) rows s) ≡ false
has_line k [] s h w = refl
has_line k (r ∷ rs) s h w =
    let parts = cond_none (eqb r.stock s && tiered r.content) k (first_line (k + 1) rs s) h in
    let more = has_line (k + 1) rs s parts.1 w in
    elim (eqb r.stock s) as (λ t. (t && tiered r.content) ≡ false → is_some (or_else (cond t (returns_in w r.content) None) (first_in (returns_in w) rs s)) ≡ false) [
      | true ↦ λ e. ap (λ (o : Option (List ℤ)). is_some (or_else o (first_in (returns_in w) rs s))) (untiered w r.content e) ∙ more
      | false ↦ λ _. more
    ]
    parts.0

fit_no_fault : (rows : List Row) (s : ℕ) → Fit rows s → fault_line rows s ≡ None
fit_no_fault rows s f = cond-false (uneven rows s) _ _ (unfit_not _ _ _ f.sets f.alone)

no_fault_fit : (rows : List Row) (s : ℕ) → fault_line rows s ≡ None → Fit rows s
no_fault_fit rows s h =
    ⊎_elim
    (λ (e : uneven rows s ≡ true).
    let none : first_line 14 rows s ≡ None = sym (cond-true (uneven rows s) (first_line 14 rows s) None e) ∙ h in
    let a = has_line 14 rows s none Historical in
    let b = has_line 14 rows s none Stress in
    absurd (both_ways _ (rw (a, b) refl) e))
    (λ (e : uneven rows s ≡ false). let p = not_unfit _ _ _ e in record { sets = p.0; alone = p.1 })
    (cases_Bool (uneven rows s))

even_none : (o : Option ℕ) (f g : File) → if_even o f ≡ Ok g → (o ≡ None) × (f ≡ g)
even_none None f g h = (refl, ok_same f g h)
even_none (Some k) f g h = absurd (ok_not_err g (fault_at k Tier) h)

-- the whole file

pub down_passes : (bytes : List ℕ) (f : File) → LaysDown bytes f → verdict bytes ≡ Ok f
down_passes bytes f (rest, t) =
    let p = f.heading.parameters in
    let size : sized bytes ≡ true = and_from (leb 1 (length bytes)) _ (le-leb 1 (length bytes) t.some) (le-leb (length bytes) most_bytes t.few) in
    let head = (headings_pass (lines bytes) rest f.heading).1 t.heading in
    let rows = rows_pass p 14 [] rest f.rows t.rows t.firsts in
    let fits = earliest_none (fault_line f.rows) stock_places (λ s l. fit_no_fault f.rows s (t.fit s l)) in
    cond-true (sized bytes) _ _ size
    ∙ ap (λ (x : Result (Heading × List (List ℕ)) Fault). and_then x after_heading) head
    ∙ ap (λ (x : Result (List Row) Fault). and_then x (λ (rs : List Row). fitting (record { heading = f.heading; rows = rs }))) rows
    ∙ ap (λ (o : Option ℕ). if_even o f) fits

pub passes_down : (bytes : List ℕ) (f : File) → verdict bytes ≡ Ok f → LaysDown bytes f
passes_down bytes f h =
    let one = ok_cond (sized bytes) (and_then (heading (lines bytes)) after_heading) (fault_at 0 Length) f h in
    let two = then_ok (heading (lines bytes)) after_heading f one.1 in
    let head = two.0 in
    let three = then_ok (rows_from head.0.parameters 14 [] head.1) (λ (rs : List Row). fitting (record { heading = head.0; rows = rs })) f two.2 in
    let four = even_none (earliest (fault_line three.0) stock_places) (record { heading = head.0; rows = three.0 }) f three.2 in
    let same : record { heading = head.0; rows = three.0 } ≡ f = four.1 in
    let laid = pass_rows head.0.parameters 14 [] head.1 three.0 three.1 in
    let some = and_parts (leb 1 (length bytes)) _ one.0 in
    subst (LaysDown bytes) same (
      head.1,
      record {
        some = leb-true 1 (length bytes) some.0;
        few = leb-true (length bytes) most_bytes some.1;
        heading = (headings_pass (lines bytes) head.1 head.0).0 two.1;
        rows = subst (LaysRows head.0.parameters head.1) (sym laid.1) laid.2;
        firsts = subst (Firsts []) (sym laid.1) laid.3;
        fit = λ s l. no_fault_fit three.0 s (none_earliest (fault_line three.0) stock_places four.0 s l);
      },
    )

pub files_pass : FilesPass
files_pass bytes f = (passes_down bytes f, down_passes bytes f)
