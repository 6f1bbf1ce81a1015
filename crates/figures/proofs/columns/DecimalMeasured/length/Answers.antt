use Rattle.std.proofs.Common.{ℕ, length, decimal, ap, arith}
use Rattle.figures.proofs.LengthLaws.{length_pointed}
use Rattle.figures.proofs.columns.DecimalMeasured.length.Goals as goal

pub returns : goal.returns
returns g c = omega (arith, c.decimal_length.ensures.value, ap (λ (n : ℕ). length (decimal n)) c.whole.ensures, length_pointed g.row.PLACES c.args.self.now.0)
