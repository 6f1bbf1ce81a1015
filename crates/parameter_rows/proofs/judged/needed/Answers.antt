use Rattle.std.proofs.Common.{◌≡◌, ℕ, ◌+◌, List, [], length, take, drop, set, ℤ, pos, Some, None, Ok, Err, Option, MatchOption, Bor, sym, ap, ◌∙◌, subst, arith, w32, SFits, rules}
use Rattle.std.specs.Option.{ok_or}
use Rattle.std.specs.Iterator.{YieldsFirstRef}
use Rattle.std.proofs.lemmas.Result.{err_from_is_err_and}
use Rattle.std.proofs.lemmas.List.{set-get_or}
use Rattle.std.proofs.lemmas.Int.{to_z-of_z}
use Rattle.parameter_text.specs.declared.terms.Question.{Question}
use Rattle.parameter_text.specs.declared.terms.Question.TheVariants.{Cells}
use Rattle.parameter_text.specs.Left.{cells_left}
use Rattle.parameter_text.proofs.DigitLaws.{ok_not_err}
use Rattle.parameter_rows.specs.Asking.{outcome, asked}
use Rattle.parameter_rows.proofs.Verdicts.{JudgedTo, more_ok, more_err, judged_all, judged_few}
use Rattle.parameter_rows.proofs.judged.needed.Goals as goal
use Rattle.parameter_rows.proofs.judged.needed.Goals.{in-Ok, in-Err}

none_left : {X : Type 0} (o : Option X) (e q : Question) (P : Type 0) (Q : X → Type 0) → MatchOption o P Q → Err e ≡ ok_or o q → (e ≡ q) × P
none_left None e q P Q m h = (cc, m)
none_left (Some x) e q P Q m h = absurd (ok_not_err x e h)

pub returns-in_err-cell : goal.returns-in_err-cell
returns-in_err-cell c =
    let l = c.loop-value in
    let L = cells_left c.args.cells.now in
    let none = none_left c.next.result _ Cells _ _ c.next.ensures.steps c.in_err-cell.ensures.value in
    let few = judged_few L (cells_left l.cells) l.value-index l.failed l.row (omega arith) none.1.0 l.invariant in
    let size : length l.row ≡ length c.args.row.now = omega arith in
    let p = err_from_is_err_and c.from_residual.result c.from_residual.ensures.1 in
    rw (p.1, p.2, none.0) (record { judged = subst (λ (n : ℕ). asked n L ≡ Err Cells) size few.0; rest = none.1.1 ∙ subst (λ (n : ℕ). [] ≡ drop n L) size few.1 })

pub loop-value-preserved : goal.loop-value-preserved
loop-value-preserved c =
    let l = c.loop-value in
    let L = cells_left c.args.cells.now in
    let left = cells_left l.cells in
    let left' = cells_left c.next.new.self in
    let gave = subst (λ (o : Option (Bor (List ℕ))). YieldsFirstRef cells_left l.cells o c.next.new.self) c.in_ok-cell.ensures.ok_part c.next.ensures.steps in
    let m = c.match-return_value in
    elim m.branch [
      | in-Ok w ↦
          let f : SFits w32 w.in-Ok.v = search rules in
          let s = more_ok L left left' l.value-index l.failed l.row l.invariant c.in_ok-cell.cell.now w.in-Ok.v (search rules) gave w.in-Ok.ensures in
          let row : m.row ≡ set l.row l.value-index w.in-Ok.v = w.row-is ∙ ap (set l.row l.value-index) (to_z-of_z w32 w.in-Ok.v f) in
          let t : JudgedTo L left' (l.value-index + 1) l.failed (take (l.value-index + 1) m.row) = subst (λ (r : List ℤ). JudgedTo L left' (l.value-index + 1) l.failed (take (l.value-index + 1) r)) (sym row) s in
          subst (λ (o : Option Question). JudgedTo L left' (l.value-index + 1) o (take (l.value-index + 1) m.row)) (sym w.failed-is) t
      | in-Err w ↦
          let s = more_err L left left' l.value-index l.failed l.row l.invariant c.in_ok-cell.cell.now w.in-Err.q gave w.in-Err.ensures in
          let failed = w.failed-is ∙ ap Some w.first_failed.ensures in
          let t : JudgedTo L left' (l.value-index + 1) m.failed (take (l.value-index + 1) l.row) = subst (λ (o : Option Question). JudgedTo L left' (l.value-index + 1) o (take (l.value-index + 1) l.row)) (sym failed) s in
          subst (λ (r : List ℤ). JudgedTo L left' (l.value-index + 1) m.failed (take (l.value-index + 1) r)) (sym (w.row-is ∙ set-get_or l.row l.value-index (pos 0))) t
    ]

pub returns-in-None : goal.returns-in-None
returns-in-None c =
    let l = c.loop-value in
    let L = cells_left c.args.cells.now in
    let size : length l.row ≡ length c.args.row.now = omega arith in
    let all = judged_all L (cells_left l.cells) l.value-index l.failed l.row (omega arith) l.invariant in
    record { judged = subst (λ (n : ℕ). asked n L ≡ Ok l.row) size (all.0 ∙ ap (λ (o : Option Question). outcome o l.row) c.in-None.is); rest = all.1 ∙ ap (λ (n : ℕ). drop n L) size }

pub returns-in-Some : goal.returns-in-Some
returns-in-Some c =
    let l = c.loop-value in
    let L = cells_left c.args.cells.now in
    let size : length l.row ≡ length c.args.row.now = omega arith in
    let all = judged_all L (cells_left l.cells) l.value-index l.failed l.row (omega arith) l.invariant in
    record { judged = subst (λ (n : ℕ). asked n L ≡ Err c.in-Some.q) size (all.0 ∙ ap (λ (o : Option Question). outcome o l.row) c.in-Some.is); rest = all.1 ∙ ap (λ (n : ℕ). drop n L) size }
