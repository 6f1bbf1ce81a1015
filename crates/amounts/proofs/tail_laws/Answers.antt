use Rattle.amounts.proofs.Tail.{tail_bound_holds, tail_adds_holds, tail_near_holds}
use Rattle.amounts.proofs.tail_laws.Goals as goal

pub returns : goal.returns
returns c = record { tail_is_least = tail_bound_holds; tail_adds = tail_adds_holds; tail_stays_near = tail_near_holds }
