use Rattle.std.proofs.Common.{◌≡◌, ◌-◌, ◌≤◌}
use Rattle.first_few.proofs.Shifts.{moved}
use Rattle.first_few.proofs.inserting.shift.Given as goal

abbrev pub invariant-loop-j : goal.invariant-loop-j
invariant-loop-j g l = (l.places ≡ moved l.initial.places l.j l.to) × (l.from ≤ l.j) × (l.j ≤ l.to)

abbrev pub decreases-loop-j : goal.decreases-loop-j
decreases-loop-j g l = l.j - l.from
