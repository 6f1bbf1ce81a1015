use Rattle.parameter_text.proofs.DecimalSteps.{powers_at}
use Rattle.parameter_text.proofs.decimals.power.Goals as goal

pub returns : goal.returns
returns c = let p = powers_at c.args.k c.requires in record { value = p.0; bound = p.1 }
