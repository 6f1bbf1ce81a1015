use Rattle.std.proofs.Common.{◌≡◌, ◌<◌, get_or, take, length, arith}
use Rattle.std.proofs.lemmas.List.{get_or-take, length-take-le}
use Rattle.parameter_rows.proofs.UsualCells.{digits_more}
use Rattle.parameter_rows.proofs.usual.digits.Goals as goal

pub loop-k-preserved : goal.loop-k-preserved
loop-k-preserved c =
    let xs = c.args.text.now in
    let l = c.loop-k in
    let d = c.if-not-is_ascii_digit.ensures.cases in
    let long : length (take 8 xs) ≡ 8 = length-take-le 8 xs c.requires.room in
    let h : l.k < 8 = omega (arith, long, c.loop-k-test.true) in
    let same : get_or (take 8 xs) l.k 0 ≡ get_or xs l.k 0 = get_or-take 8 xs l.k 0 h in
    rw (c.from.ensures, same) (digits_more xs c.args.whole l.n l.k (omega (arith, c.requires.room, h)) h (omega (arith, same, d.0)) (omega (arith, same, d.1)) l.invariant)
