use Rattle.std.proofs.Common.{true, ap, ◌∙◌, arith}
use Rattle.std.proofs.lemmas.Int.{ints}
use Rattle.margin.specs.Visits.{stock_in, visited}
use Rattle.margin.proofs.Visiting.{stocks, visiting_start, visiting_more, visiting_end, visits_few, sum_filter}
use Rattle.margin.proofs.Sizes.{size, visited_sizes}
use Rattle.margin.proofs.account.Account.gross_of_kind.Goals as goal

pub loop-stock-init : goal.loop-stock-init
loop-stock-init c =
    let e = c.visits-stock-items.ensures in
    let it = c.into_iter-stock-iterator.ensures.into_iter_gives in
    visiting_start 81920000000000 (size c.args.kind c.args.self.now.places.now) (stocks c.args.kind c.args.self.now.places.now) _
    (ap (λ v. stocks v.by v.places.now) it ∙ (λ i. stocks (e.by i) (e.places i)))

pub overflow_add-gross : goal.overflow_add-gross
overflow_add-gross c =
    let few = visits_few (λ x. true) (stock_in c.args.kind) c.args.self.now.places.now in
    omega (arith, ints, few, c.args.self.now.few, c.loop-stock.invariant.size, c.market_of.ensures.bound, c.abs-gross.ensures.value)

pub loop-stock-preserved : goal.loop-stock-preserved
loop-stock-preserved c =
    let xs = c.args.self.now.places.now in
    let b = c.market_of.ensures.bound in
    let few = visits_few (λ x. true) (stock_in c.args.kind) xs in
    visiting_more 81920000000000 (size c.args.kind xs) (stocks c.args.kind xs) _ _ c.in-Some.stock _ c.abs-gross.result _ c.in-Some.ensures.steps
    (omega (arith, ints, b, c.market_of.ensures.value, c.abs-gross.ensures.value)) (omega (arith, ints, b, c.abs-gross.ensures.value))
    (omega (arith, ints, few, c.args.self.now.few, b, c.abs-gross.ensures.value, c.loop-stock.invariant.size)) c.loop-stock.invariant

pub returns-clause-value : goal.returns-clause-value
returns-clause-value c =
    let xs = c.args.self.now.places.now in
    visiting_end 81920000000000 (size c.args.kind xs) (stocks c.args.kind xs) _ _ c.in-None.ensures.steps.0 c.loop-stock.invariant
    ∙ sum_filter (λ x. true) (size c.args.kind xs) (visited (stock_in c.args.kind) xs) ∙ visited_sizes c.args.kind xs c.args.self.now.sound

pub returns-clause-bound : goal.returns-clause-bound
returns-clause-bound c =
    let few = visits_few (λ x. true) (stock_in c.args.kind) c.args.self.now.places.now in
    omega (arith, ints, few, c.args.self.now.few, c.loop-stock.invariant.size)
