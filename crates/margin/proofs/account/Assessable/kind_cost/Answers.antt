use Rattle.std.proofs.Common.{◌≡◌, ◌≤◌, true, length, ap, ◌∙◌, arith, w64, FitsSigned}
use mir.Syntax.{w128}
use Rattle.std.proofs.lemmas.Int.{ints, to_z-of_z}
use Rattle.margin_rules.specs.Charges.{entitlement_of}
use Rattle.margin.specs.Costs.{charged_at}
use Rattle.margin.specs.Visits.{stock_in}
use Rattle.margin.proofs.Numbers.{through_sum}
use Rattle.margin.proofs.CostLaws.{cost, cost_all}
use Rattle.margin.proofs.Visiting.{stocks, visiting_start, visiting_more, visiting_end, visits_few}
use Rattle.margin.proofs.account.Assessable.kind_cost.Goals as goal

pub loop-stock-init : goal.loop-stock-init
loop-stock-init g c =
    let m = g.S.ReturnSource.meaning c.args.self.now.source.now in
    let xs = c.args.self.now.account.places.now in
    let e = c.visits-stock-items.ensures in
    let it = c.into_iter-stock-iterator.ensures.into_iter_gives in
    visiting_start 800000000000000 (cost m c.args.kind xs) (stocks c.args.kind xs) _ (ap (λ v. stocks v.by v.places.now) it ∙ (λ i. stocks (e.by i) (e.places i)))

pub overflow_add-sum : goal.overflow_add-sum
overflow_add-sum g c =
    let xs = c.args.self.now.account.places.now in
    let few : length (stocks c.args.kind xs) ≤ 4096 = omega (arith, visits_few (λ x. true) (stock_in c.args.kind) xs, c.args.self.now.account.few) in
    let bound = c.charge_of.ensures.bound in
    let fr : FitsSigned w64 c.charge_of.result = omega (arith, ints, bound) in
    let is : c.from-sum.result ≡ c.charge_of.result = c.from-sum.ensures ∙ to_z-of_z w64 c.charge_of.result fr in
    let fw : FitsSigned w128 c.from-sum.result = omega (arith, ints, bound, is) in
    rw (to_z-of_z w128 c.from-sum.result fw) (omega (arith, ints, few, is, bound, c.loop-stock.invariant.size))

pub loop-stock-preserved : goal.loop-stock-preserved
loop-stock-preserved g c =
    let m = g.S.ReturnSource.meaning c.args.self.now.source.now in
    let xs = c.args.self.now.account.places.now in
    let few : length (stocks c.args.kind xs) ≤ 4096 = omega (arith, visits_few (λ x. true) (stock_in c.args.kind) xs, c.args.self.now.account.few) in
    let r = c.charge_of.result in
    let bound = c.charge_of.ensures.bound in
    let fr : FitsSigned w64 r = omega (arith, ints, bound) in
    let is : c.from-sum.result ≡ r = c.from-sum.ensures ∙ to_z-of_z w64 r fr in
    let fw : FitsSigned w128 c.from-sum.result = omega (arith, ints, bound, is) in
    visiting_more 800000000000000 (cost m c.args.kind xs) (stocks c.args.kind xs) _ _ c.in-Some.stock _ c.from-sum.result _ c.in-Some.ensures.steps
    (is ∙ c.charge_of.ensures.value ∙ ap (charged_at (entitlement_of m c.args.kind c.in-Some.stock)) c.market_of-value.ensures.value) (omega (arith, ints, is, bound))
    (through_sum w128 _ c.from-sum.result fw (omega (arith, ints, few, is, bound, c.loop-stock.invariant.size))) c.loop-stock.invariant

pub returns-clause-value : goal.returns-clause-value
returns-clause-value g c =
    let m = g.S.ReturnSource.meaning c.args.self.now.source.now in
    let xs = c.args.self.now.account.places.now in
    visiting_end 800000000000000 (cost m c.args.kind xs) (stocks c.args.kind xs) _ _ c.in-None.ensures.steps.0 c.loop-stock.invariant
    ∙ cost_all m c.args.kind xs c.args.self.now.account.sound

pub returns-clause-bound : goal.returns-clause-bound
returns-clause-bound g c =
    let m = g.S.ReturnSource.meaning c.args.self.now.source.now in
    let xs = c.args.self.now.account.places.now in
    let few : length (stocks c.args.kind xs) ≤ 4096 = omega (arith, visits_few (λ x. true) (stock_in c.args.kind) xs, c.args.self.now.account.few) in
    omega (arith, ints, few, c.loop-stock.invariant.size)
