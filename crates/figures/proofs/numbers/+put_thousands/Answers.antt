use Rattle.std.proofs.Common.{◌<◌, ◌≤◌, inl, inr, ⊎_elim, arith}
use Rattle.std.proofs.Output.{has_written_of_eq}
use Rattle.figures.proofs.FigureLaws.{separated_alone, separated_more}
use Rattle.figures.proofs.WriteLaws.{prints_both}
use Rattle.figures.proofs.numbers.+put_thousands.Goals as goal

pub returns-then-commas-eq0 : goal.returns-then-commas-eq0
returns-then-commas-eq0 g t c plain ok =
    has_written_of_eq g.W.Write.write_str_gives c.args.f.now _ _ c.write.new.self (separated_alone c.args.commas c.args.number (⊎_elim inl (λ w. inr w.1) c.then-commas-eq0.either))
    (c.write.ensures.writes plain ok)

pub returns : goal.returns
returns g t c =
    let some : 0 < c.args.commas = omega arith in
    let large : 1000 ≤ c.args.number = omega arith in
    prints_both g.W.Write.write_str_gives c.args.f.now c.put_thousands.new.f c.write-2.new.self c.put_thousands.result c.write-2.result _ _ _
    (separated_more c.args.commas c.args.number some large) c.in_ok-put_thousands.was c.put_thousands.ensures c.write-2.ensures.writes
