use Rattle.std.proofs.Common.{ℕ, List, drop, subst, arith, rules}
use Rattle.std.proofs.lemmas.List.{take_rest}
use Rattle.parameter_rows.specs.Reading.{Digits}
use Rattle.parameter_rows.proofs.UsualCells.{sized_more, units_at}
use Rattle.parameter_rows.proofs.usual.size.Goals as goal

pub returns-clause-found : goal.returns-clause-found
returns-clause-found c =
    let xs = c.args.text.now in
    let n = c.digits-n.result.0 in
    let k = c.digits-n.result.1 in
    let d = subst (λ (w : ℕ). Digits (drop 2 xs) w n k) c.from-whole.ensures (subst (λ (l : List ℕ). Digits l c.from-whole.result n k) (take_rest xs 2) c.digits-n.ensures) in
    let digit = c.if-not-is_ascii_digit.ensures.cases in
    rw (units_at k d.few) (sized_more xs n k (omega (arith, d.few)) digit.0 digit.1 c.if-text-ne46.false (search rules) d)
