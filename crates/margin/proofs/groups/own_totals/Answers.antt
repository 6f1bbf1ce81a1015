use Rattle.std.proofs.Common.{◌≡◌, length, replicate, pos, ◌∙◌, rules}
use Rattle.margin_rules.specs.Portfolio.{scenarios, return_at, rounded_product}
use Rattle.margin.proofs.Products.{product_small, row_of}
use Rattle.margin.proofs.Passes.{from_zero, figures_small}
use Rattle.margin.proofs.groups.own_totals.Goals as goal

pub returns-clause-value : goal.returns-clause-value
returns-clause-value g c =
    let m = g.S.ReturnSource.meaning c.args.source.now in
    let o = m.returns c.args.set c.args.stock in
    let zs = c.fill.new.self in
    let n : length zs ≡ (scenarios m c.args.set).count = c.fill.ensures.len ∙ c.requires.count in
    let z : zs ≡ replicate (length zs) (pos 0) = search rules in
    from_zero (λ i. rounded_product c.args.value.dollars (return_at o i)) (scenarios m c.args.set).count zs c.add_returns.new.totals n z
    c.add_returns.ensures

pub returns-clause-bound : goal.returns-clause-bound
returns-clause-bound g c =
    let m = g.S.ReturnSource.meaning c.args.source.now in
    let law = g.met.S.ReturnSource.lawful c.args.source.now in
    let o = m.returns c.args.set c.args.stock in
    figures_small (λ i. rounded_product c.args.value.dollars (return_at o i)) 80000000000 (scenarios m c.args.set).count c.add_returns.new.totals (returns-clause-value g c)
    (λ j. product_small c.args.value.dollars o (scenarios m c.args.set).count j (row_of m law c.args.set c.args.stock) c.args.value.small)
