use Rattle.std.proofs.Common.{ℕ, length, decimal, ap, arith}
use Rattle.figures.proofs.LengthLaws.{length_iso_date}
use Rattle.figures.proofs.columns.IsoDateMeasured.length.Goals as goal

pub returns : goal.returns
returns c = omega (arith, c.decimal_length.ensures.value, ap (λ (n : ℕ). length (decimal n)) c.from.ensures, length_iso_date c.args.self.now.0.now)
