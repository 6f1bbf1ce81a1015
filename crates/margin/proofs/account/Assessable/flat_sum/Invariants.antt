use Rattle.std.proofs.Common.{ℕ, ◌≤◌, List}
use Rattle.std.specs.List.{AllByRecursion as All}
use Rattle.margin.proofs.RateLaws.{cost}
use Rattle.margin.proofs.Visiting.{Visiting, flat_rates}
use Rattle.margin.proofs.account.Assessable.flat_sum.Given as goal

abbrev pub invariant-loop-rate : goal.invariant-loop-rate
invariant-loop-rate g l =
    let m = g.S.ReturnSource.meaning l.self.source.now in
    let xs = l.self.account.places.now in
    let left : List ℕ = flat_rates (g.S.ReturnSource.meaning l.rate-iterator.by.source.now) l.rate-iterator.places.now in
    record {
      costs : Visiting 327680000000000000000 (cost m l.self.account.settings.now xs) (flat_rates m xs) left l.sum;
      rates : All (λ q. q ≤ 10000) left;
    }
