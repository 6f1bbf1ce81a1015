use Rattle.std.proofs.Common.{◌≡◌, filter, length}
use Rattle.margin.specs.Visits.{visited}
use Rattle.margin.proofs.visits.VisitsIterator.next.Given as goal

abbrev pub invariant-loop-place : goal.invariant-loop-place
invariant-loop-place g l =
    filter (g.V.Visit.counts l.self.by) (visited (g.V.Visit.key_in l.self.by) l.self.places.now) ≡ filter (g.V.Visit.counts l.initial.self.by) (visited (g.V.Visit.key_in l.initial.self.by) l.initial.self.places.now)

abbrev pub decreases-loop-place : goal.decreases-loop-place
decreases-loop-place g l = length l.self.places.now
