use Rattle.std.proofs.Common.{◌≡◌, unsigned_abs, w64, rules, length, codes, ap, length-append, arith, pos, ◌<ℤ◌, ◌≤ℤ◌}
use Rattle.figures.specs.Figures.{separated}
use mir.Val.{SFits}
use Rattle.std.proofs.lemmas.Int.{ints, to_z-of_z}
use Rattle.figures.proofs.FigureLaws.{dollars_below, dollars_from}
use Rattle.figures.proofs.columns.DollarsMeasured.length.Goals as goal

pub returns-then-self-lt0 : goal.returns-then-self-lt0
returns-then-self-lt0 c =
    let below : c.args.self.now.0 <ℤ pos 0 = omega (arith, ints) in
    let fits : SFits w64 c.args.self.now.0 = search rules in
    let size_is : c.unsigned_abs.result ≡ unsigned_abs c.args.self.now.0 = grind (arith, to_z-of_z, c.unsigned_abs.ensures.value) in
    let size = c.unsigned_abs.result in
    omega (arith, c.thousands_length-digits_and_commas.ensures.value, length-append (codes "-") (separated 6 size), ap length (dollars_below c.args.self.now.0 size below size_is))

pub returns-else-self-lt0 : goal.returns-else-self-lt0
returns-else-self-lt0 c =
    let from : pos 0 ≤ℤ c.args.self.now.0 = omega (arith, ints) in
    let fits : SFits w64 c.args.self.now.0 = search rules in
    let size_is : c.unsigned_abs.result ≡ unsigned_abs c.args.self.now.0 = grind (arith, to_z-of_z, c.unsigned_abs.ensures.value) in
    let size = c.unsigned_abs.result in
    omega (arith, c.thousands_length-digits_and_commas.ensures.value, ap length (dollars_from c.args.self.now.0 size from size_is))
