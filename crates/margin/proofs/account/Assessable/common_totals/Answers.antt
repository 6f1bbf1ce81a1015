use Rattle.std.proofs.Common.{◌≡◌, ℕ, ◌^◌, map, length, replicate, ℤ, pos, ap, ◌∙◌, arith, rules}
use Rattle.std.specs.List.{range_with_len}
use Rattle.ledger.specs.declared.terms.Kind.TheVariants.{Stock}
use Rattle.margin_rules.specs.Portfolio.{scenarios, return_at, rounded_product, is_common}
use Rattle.margin.specs.declared.parts.Part.TheVariants.{Common}
use Rattle.margin.specs.Visits.{stock_in}
use Rattle.margin.specs.Groups.{stock_market, held_stocks}
use Rattle.margin.proofs.Products.{with_returns, product_small, row_of}
use Rattle.margin.proofs.Visiting.{part_stocks, so_far_start, so_far_more, so_far_end, so_far_all, visits_few, sum_filter}
use Rattle.margin.proofs.account.Assessable.common_totals.Goals as goal

pub loop-stock-init : goal.loop-stock-init
loop-stock-init g c =
    let m = g.S.ReturnSource.meaning c.args.self.now.source.now in
    let xs = c.args.self.now.account.places.now in
    let s = c.args.self.now.account.settings.now in
    let f : ℕ → ℕ → ℤ = λ j x. rounded_product (stock_market xs x) (return_at (m.returns c.args.set x) j) in
    let zs = c.fill.new.self in
    let n : length zs ≡ (scenarios m c.args.set).count = c.fill.ensures.len ∙ c.requires.count in
    let z : zs ≡ replicate (length zs) (pos 0) = search rules in
    let e = c.visits_in-stock-items.ensures in
    let it = c.into_iter-stock-iterator.ensures.into_iter_gives in
    let is = ap (λ v. part_stocks (g.S.ReturnSource.meaning v.by.source.now) v.by.settings.now v.by.part v.places.now) it ∙ (λ i. part_stocks (g.S.ReturnSource.meaning (e.source i)) (e.settings i) (e.part i) (e.places i)) in
    so_far_start f (scenarios m c.args.set).count (part_stocks m s Common xs) _ zs is n z

pub add_returns-requires-clause-totals : goal.add_returns-requires-clause-totals
add_returns-requires-clause-totals g c =
    let m = g.S.ReturnSource.meaning c.args.self.now.source.now in
    let xs = c.args.self.now.account.places.now in
    let s = c.args.self.now.account.settings.now in
    let f : ℕ → ℕ → ℤ = λ j x. rounded_product (stock_market xs x) (return_at (m.returns c.args.set x) j) in
    let n : length c.loop-stock.totals ≡ (scenarios m c.args.set).count = c.loop-stock.auto.totals ∙ c.fill.ensures.len ∙ c.requires.count in
    let few = visits_few (is_common m s) (stock_in Stock) xs in
    so_far_all f (scenarios m c.args.set).count (part_stocks m s Common xs) _ c.loop-stock.totals (2 ^ 62) (omega (arith, few, c.args.self.now.account.few)) n c.loop-stock.invariant

pub loop-stock-preserved : goal.loop-stock-preserved
loop-stock-preserved g c =
    let m = g.S.ReturnSource.meaning c.args.self.now.source.now in
    let xs = c.args.self.now.account.places.now in
    let s = c.args.self.now.account.settings.now in
    let law = g.met.S.ReturnSource.lawful c.args.self.now.source.now in
    let w = c.args.set in
    let k = (scenarios m w).count in
    let ts = c.loop-stock.totals in
    let x = c.in-Some.stock in
    let f : ℕ → ℕ → ℤ = λ j x. rounded_product (stock_market xs x) (return_at (m.returns w x) j) in
    let n : length ts ≡ k = c.loop-stock.auto.totals ∙ c.fill.ensures.len ∙ c.requires.count in
    let same = c.market_of-value.ensures.value in
    so_far_more f k (part_stocks m s Common xs) _ _ x ts c.add_returns.new.totals c.in-Some.ensures.steps n
    (c.add_returns.ensures ∙ ap (λ z. with_returns z (m.returns w x) ts) same)
    (λ j l. product_small (stock_market xs x) (m.returns w x) k j (row_of m law w x) (c.args.self.now.small Stock x)) c.loop-stock.invariant

pub returns-clause-value : goal.returns-clause-value
returns-clause-value g c =
    let m = g.S.ReturnSource.meaning c.args.self.now.source.now in
    let xs = c.args.self.now.account.places.now in
    let s = c.args.self.now.account.settings.now in
    let f : ℕ → ℕ → ℤ = λ j x. rounded_product (stock_market xs x) (return_at (m.returns c.args.set x) j) in
    let n : length c.loop-stock.totals ≡ (scenarios m c.args.set).count = c.loop-stock.auto.totals ∙ c.fill.ensures.len ∙ c.requires.count in
    so_far_end f (scenarios m c.args.set).count (part_stocks m s Common xs) _ c.loop-stock.totals c.in-None.ensures.steps.0 n c.loop-stock.invariant
    ∙ (λ i. map (λ j. sum_filter (is_common m s) (f j) (held_stocks xs) i) (range_with_len 0 (scenarios m c.args.set).count))

pub returns-clause-bound : goal.returns-clause-bound
returns-clause-bound g c =
    let m = g.S.ReturnSource.meaning c.args.self.now.source.now in
    let xs = c.args.self.now.account.places.now in
    let s = c.args.self.now.account.settings.now in
    let f : ℕ → ℕ → ℤ = λ j x. rounded_product (stock_market xs x) (return_at (m.returns c.args.set x) j) in
    let n : length c.loop-stock.totals ≡ (scenarios m c.args.set).count = c.loop-stock.auto.totals ∙ c.fill.ensures.len ∙ c.requires.count in
    let few = visits_few (is_common m s) (stock_in Stock) xs in
    so_far_all f (scenarios m c.args.set).count (part_stocks m s Common xs) _ c.loop-stock.totals 400000000000000 (omega (arith, few, c.args.self.now.account.few)) n c.loop-stock.invariant
