use Rattle.std.proofs.Common.{◌*◌, ◌≤◌, true, length, pos, ◌*ℤ◌, sym, ap, ◌∙◌, subst, arith, w64, FitsSigned}
use mir.Syntax.{w128}
use Rattle.std.specs.List.{AllByRecursion as All}
use Rattle.std.proofs.lemmas.Int.{ints, to_z-of_z}
use Rattle.margin.specs.Visits.{rate_in}
use Rattle.margin.proofs.Numbers.{through_sum}
use Rattle.margin.proofs.RateLaws.{cost, rates_small, rates_cost}
use Rattle.margin.proofs.Visiting.{flat_rates, visiting_start, visiting_more, visiting_end, visits_few}
use Rattle.margin.proofs.account.Assessable.flat_sum.Goals as goal

pub loop-rate-init : goal.loop-rate-init
loop-rate-init g c =
    let m = g.S.ReturnSource.meaning c.args.self.now.source.now in
    let xs = c.args.self.now.account.places.now in
    let s = c.args.self.now.account.settings.now in
    let e = c.visits-rate-items.ensures in
    let it = c.into_iter-rate-iterator.ensures.into_iter_gives in
    let is = ap (λ v. flat_rates (g.S.ReturnSource.meaning v.by.source.now) v.places.now) it ∙ (λ i. flat_rates (g.S.ReturnSource.meaning (ap (λ b. b.source.now) e.by i)) (e.places i)) in
    record {
      costs = visiting_start 327680000000000000000 (cost m s xs) (flat_rates m xs) _ is;
      rates = subst (All (λ q. q ≤ 10000)) (sym is) (rates_small m (g.met.S.ReturnSource.lawful c.args.self.now.source.now) xs);
    }

pub charge-sum-requires-clause-rate : goal.charge-sum-requires-clause-rate
charge-sum-requires-clause-rate g c = (subst (All (λ q. q ≤ 10000)) c.in-Some.ensures.steps c.loop-rate.invariant.rates).0

pub overflow_add-sum : goal.overflow_add-sum
overflow_add-sum g c =
    let m = g.S.ReturnSource.meaning c.args.self.now.source.now in
    let xs = c.args.self.now.account.places.now in
    let few : length (flat_rates m xs) ≤ 4096 = omega (arith, visits_few (λ x. true) (rate_in m) xs, c.args.self.now.account.few) in
    let r = c.charge-sum.result in
    let fr : FitsSigned w128 r = omega (arith, ints, c.charge-sum.ensures.bound) in
    rw (to_z-of_z w128 r fr) (omega (arith, ints, few, c.loop-rate.invariant.costs.size, c.charge-sum.ensures.bound))

pub loop-rate-preserved : goal.loop-rate-preserved
loop-rate-preserved g c =
    let m = g.S.ReturnSource.meaning c.args.self.now.source.now in
    let xs = c.args.self.now.account.places.now in
    let s = c.args.self.now.account.settings.now in
    let q = c.in-Some.rate in
    let few : length (flat_rates m xs) ≤ 4096 = omega (arith, visits_few (λ x. true) (rate_in m) xs, c.args.self.now.account.few) in
    let r = c.charge-sum.result in
    let fs : FitsSigned w64 c.side.result = omega (arith, ints, c.side.ensures.bound) in
    let fr : FitsSigned w128 r = omega (arith, ints, c.charge-sum.ensures.bound) in
    record {
      costs =
          visiting_more 327680000000000000000 (cost m s xs) (flat_rates m xs) _ _ q _ r _ c.in-Some.ensures.steps
          (c.charge-sum.ensures.value ∙ ap (λ z. pos (q * s.multiplier) *ℤ z) (to_z-of_z w64 c.side.result fs ∙ c.side.ensures.value))
          c.charge-sum.ensures.bound (through_sum w128 _ r fr (omega (arith, ints, few, c.loop-rate.invariant.costs.size, c.charge-sum.ensures.bound))) c.loop-rate.invariant.costs;
      rates = (subst (All (λ q. q ≤ 10000)) c.in-Some.ensures.steps c.loop-rate.invariant.rates).1;
    }

pub returns-clause-value : goal.returns-clause-value
returns-clause-value g c =
    let m = g.S.ReturnSource.meaning c.args.self.now.source.now in
    let xs = c.args.self.now.account.places.now in
    let s = c.args.self.now.account.settings.now in
    visiting_end 327680000000000000000 (cost m s xs) (flat_rates m xs) _ _ c.in-None.ensures.steps.0 c.loop-rate.invariant.costs
    ∙ rates_cost m s xs (g.met.S.ReturnSource.lawful c.args.self.now.source.now)

pub returns-clause-bound : goal.returns-clause-bound
returns-clause-bound g c =
    let m = g.S.ReturnSource.meaning c.args.self.now.source.now in
    let xs = c.args.self.now.account.places.now in
    let s = c.args.self.now.account.settings.now in
    let few : length (flat_rates m xs) ≤ 4096 = omega (arith, visits_few (λ x. true) (rate_in m) xs, c.args.self.now.account.few) in
    omega (arith, ints, few, c.loop-rate.invariant.costs.size)
