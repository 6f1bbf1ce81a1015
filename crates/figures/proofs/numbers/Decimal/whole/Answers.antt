use Rattle.std.proofs.Common.{arith}
use Rattle.figures.proofs.FigureLaws.{ten_pow}
use Rattle.figures.proofs.numbers.Decimal.whole.Goals as goal

pub nonzero_div-result : goal.nonzero_div-result
nonzero_div-result g c = omega (arith, c.in-Some.ensures, ten_pow g.row.PLACES)
