use Rattle.std.proofs.Common.{◌<◌, arith}
use Rattle.figures.proofs.LengthLaws.{spaces_more}
use Rattle.figures.proofs.WriteLaws.{prints_both}
use Rattle.figures.proofs.columns.+put_spaces.Goals as goal

pub returns : goal.returns
returns g t c =
    let some : 0 < c.args.count = omega arith in
    prints_both g.W.Write.write_str_gives c.args.f.now c.put_spaces.new.f c.write.new.self c.put_spaces.result c.write.result _ _ _
    (spaces_more c.args.count some) c.in_ok-put_spaces.was c.put_spaces.ensures c.write.ensures.writes
