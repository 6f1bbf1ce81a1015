use Rattle.std.proofs.Common.{◌≡◌, unsigned_abs, w64, rules, pos, ◌<ℤ◌, ◌≤ℤ◌, arith}
use Rattle.std.proofs.Output.{has_written_of_eq}
use mir.Val.{SFits}
use Rattle.std.proofs.lemmas.Int.{ints, to_z-of_z}
use Rattle.figures.proofs.FigureLaws.{dollars_below, dollars_from}
use Rattle.figures.proofs.numbers.DollarsDisplay.fmt.Goals as goal

pub returns-then-self-lt0-clause-writes : goal.returns-then-self-lt0-clause-writes
returns-then-self-lt0-clause-writes g c plain ok =
    let below : c.args.self.now.0 <ℤ pos 0 = omega (arith, ints) in
    let fits : SFits w64 c.args.self.now.0 = search rules in
    let size_is : c.unsigned_abs.result ≡ unsigned_abs c.args.self.now.0 = grind (arith, to_z-of_z, c.unsigned_abs.ensures.value) in
    has_written_of_eq g.W.Write.write_str_gives c.args.f.now _ _ c.write.new.self (dollars_below c.args.self.now.0 c.unsigned_abs.result below size_is)
    (c.write.ensures.writes plain ok)

pub returns-else-self-lt0-clause-writes : goal.returns-else-self-lt0-clause-writes
returns-else-self-lt0-clause-writes g c plain ok =
    let from : pos 0 ≤ℤ c.args.self.now.0 = omega (arith, ints) in
    let fits : SFits w64 c.args.self.now.0 = search rules in
    let size_is : c.unsigned_abs.result ≡ unsigned_abs c.args.self.now.0 = grind (arith, to_z-of_z, c.unsigned_abs.ensures.value) in
    has_written_of_eq g.W.Write.write_str_gives c.args.f.now _ _ c.write-else-self-lt0.new.self (dollars_from c.args.self.now.0 c.unsigned_abs.result from size_is)
    (c.write-else-self-lt0.ensures.writes plain ok)
