use Rattle.std.proofs.Common.{◌≡◌, ◌*◌, ◌≤◌, drop, ◌+ℤ◌, nat_abs}
use Rattle.amounts.specs.Sums.{sum_of}
use Rattle.margin.proofs.tails.sum_totals.Given as goal

abbrev pub invariant-loop-o : goal.invariant-loop-o
invariant-loop-o l = (nat_abs l.sum ≤ 400000000000000 * l.o-index) × (l.sum +ℤ sum_of (λ o. o.total) (drop l.o-index l.part) ≡ sum_of (λ o. o.total) l.part)
