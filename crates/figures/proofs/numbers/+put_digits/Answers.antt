use Rattle.std.proofs.Common.{◌<◌, arith}
use Rattle.figures.proofs.FigureLaws.{padded_more}
use Rattle.figures.proofs.WriteLaws.{prints_both}
use Rattle.figures.proofs.numbers.+put_digits.Goals as goal

pub returns : goal.returns
returns g t c =
    let some : 0 < c.args.digits = omega arith in
    prints_both g.W.Write.write_str_gives c.args.f.now c.put_digits.new.f c.write.new.self c.put_digits.result c.write.result _ _ _
    (padded_more c.args.digits c.args.number some) c.in_ok-put_digits.was c.put_digits.ensures c.write.ensures.writes
