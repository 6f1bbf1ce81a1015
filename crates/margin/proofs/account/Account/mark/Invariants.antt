use Rattle.margin_rules.specs.Positions.{mark_in}
use Rattle.margin.proofs.Sums.{SoFar}
use Rattle.margin.proofs.account.Account.mark.Given as goal

abbrev pub invariant-loop-place : goal.invariant-loop-place
invariant-loop-place l = SoFar 40000000000 mark_in l.self.places.now l.place-index l.sum
