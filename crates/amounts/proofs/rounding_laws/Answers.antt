use Rattle.amounts.proofs.Round.{round_off_near, round_up_near}
use Rattle.amounts.proofs.rounding_laws.Goals as goal

pub returns : goal.returns
returns c = record { round_off_is_near = round_off_near; round_up_is_near = round_up_near }
