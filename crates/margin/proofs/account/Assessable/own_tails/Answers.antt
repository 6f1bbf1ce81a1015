use Rattle.std.proofs.Common.{ℕ, ◌≤◌, ℤ, List, length, ap, ◌∙◌, arith}
use Rattle.std.proofs.lemmas.Int.{ints}
use Rattle.amounts.specs.Tails.{tail_sum}
use Rattle.ledger.specs.declared.terms.Kind.TheVariants.{Stock}
use Rattle.margin_rules.specs.Portfolio.{scenarios, rounded_product, is_own, own_totals}
use Rattle.margin.specs.declared.parts.Part.TheVariants.{Own}
use Rattle.margin.specs.Visits.{stock_in}
use Rattle.margin.specs.Groups.{stock_market, held_stocks}
use Rattle.margin.proofs.Visiting.{part_stocks, visiting_start, visiting_more, visiting_end, visits_few, sum_filter}
use Rattle.margin.proofs.account.Assessable.own_tails.Goals as goal

pub loop-stock-init : goal.loop-stock-init
loop-stock-init g c =
    let m = g.S.ReturnSource.meaning c.args.self.now.source.now in
    let xs = c.args.self.now.account.places.now in
    let s = c.args.self.now.account.settings.now in
    let f : ℕ → ℤ = λ x. tail_sum (scenarios m c.args.set).tail (own_totals rounded_product m c.args.set (stock_market xs) x) in
    let all : List ℕ = part_stocks m s Own xs in
    let few : length all ≤ 4096 = omega (arith, visits_few (is_own m s) (stock_in Stock) xs, c.args.self.now.account.few) in
    let e = c.visits_in-stock-items.ensures in
    let it = c.into_iter-stock-iterator.ensures.into_iter_gives in
    let is = ap (λ v. part_stocks (g.S.ReturnSource.meaning v.by.source.now) v.by.settings.now v.by.part v.places.now) it ∙ (λ i. part_stocks (g.S.ReturnSource.meaning (e.source i)) (e.settings i) (e.part i) (e.places i)) in
    visiting_start 8000000000000 f all _ is

pub overflow_add-sum : goal.overflow_add-sum
overflow_add-sum g c =
    let m = g.S.ReturnSource.meaning c.args.self.now.source.now in
    let xs = c.args.self.now.account.places.now in
    let s = c.args.self.now.account.settings.now in
    let f : ℕ → ℤ = λ x. tail_sum (scenarios m c.args.set).tail (own_totals rounded_product m c.args.set (stock_market xs) x) in
    let all : List ℕ = part_stocks m s Own xs in
    let few : length all ≤ 4096 = omega (arith, visits_few (is_own m s) (stock_in Stock) xs, c.args.self.now.account.few) in
    omega (arith, ints, few, c.loop-stock.invariant.size, c.own_tail-sum.ensures.bound)

pub loop-stock-preserved : goal.loop-stock-preserved
loop-stock-preserved g c =
    let m = g.S.ReturnSource.meaning c.args.self.now.source.now in
    let xs = c.args.self.now.account.places.now in
    let s = c.args.self.now.account.settings.now in
    let f : ℕ → ℤ = λ x. tail_sum (scenarios m c.args.set).tail (own_totals rounded_product m c.args.set (stock_market xs) x) in
    let all : List ℕ = part_stocks m s Own xs in
    let few : length all ≤ 4096 = omega (arith, visits_few (is_own m s) (stock_in Stock) xs, c.args.self.now.account.few) in
    visiting_more 8000000000000 f all _ _ c.in-Some.stock _ c.own_tail-sum.result _ c.in-Some.ensures.steps c.own_tail-sum.ensures.value c.own_tail-sum.ensures.bound
    (omega (arith, ints, few, c.loop-stock.invariant.size, c.own_tail-sum.ensures.bound)) c.loop-stock.invariant

pub returns-clause-value : goal.returns-clause-value
returns-clause-value g c =
    let m = g.S.ReturnSource.meaning c.args.self.now.source.now in
    let xs = c.args.self.now.account.places.now in
    let s = c.args.self.now.account.settings.now in
    let f : ℕ → ℤ = λ x. tail_sum (scenarios m c.args.set).tail (own_totals rounded_product m c.args.set (stock_market xs) x) in
    let all : List ℕ = part_stocks m s Own xs in
    let few : length all ≤ 4096 = omega (arith, visits_few (is_own m s) (stock_in Stock) xs, c.args.self.now.account.few) in
    visiting_end 8000000000000 f all _ _ c.in-None.ensures.steps.0 c.loop-stock.invariant ∙ sum_filter (is_own m s) f (held_stocks xs)

pub returns-clause-bound : goal.returns-clause-bound
returns-clause-bound g c =
    let m = g.S.ReturnSource.meaning c.args.self.now.source.now in
    let xs = c.args.self.now.account.places.now in
    let s = c.args.self.now.account.settings.now in
    let f : ℕ → ℤ = λ x. tail_sum (scenarios m c.args.set).tail (own_totals rounded_product m c.args.set (stock_market xs) x) in
    let all : List ℕ = part_stocks m s Own xs in
    let few : length all ≤ 4096 = omega (arith, visits_few (is_own m s) (stock_in Stock) xs, c.args.self.now.account.few) in
    omega (arith, ints, few, c.loop-stock.invariant.size)
