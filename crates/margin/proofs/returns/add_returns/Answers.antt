use Rattle.std.proofs.Common.{◌≡◌, take, ap, ◌∙◌, arith}
use Rattle.margin_rules.specs.Portfolio.{scenarios}
use Rattle.margin.specs.Adding.{with_products}
use Rattle.margin.proofs.Products.{row_written, row_none, row_of, products_are, none_added}
use Rattle.margin.proofs.returns.add_returns.Goals as goal

pub returns-in-Ok : goal.returns-in-Ok
returns-in-Ok g c =
    let m = g.S.ReturnSource.meaning c.args.source.now in
    let law = row_of m (g.met.S.ReturnSource.lawful c.args.source.now) c.args.set c.args.stock in
    let o = m.returns c.args.set c.args.stock in
    let n = c.in-Ok.n in
    let w = row_written o c.args.row.now n c.in-Ok.ensures.answer in
    let is : take n c.write_row.new.sheet ≡ w.0 = ap (take n) c.in-Ok.ensures.written ∙ w.2 in
    c.add.ensures ∙ (λ j. with_products c.args.value.dollars (is j) c.args.totals.now) ∙ products_are c.args.value.dollars w.0 c.args.totals.now o w.1

pub returns-in_default : goal.returns-in_default
returns-in_default g c =
    let m = g.S.ReturnSource.meaning c.args.source.now in
    let law = row_of m (g.met.S.ReturnSource.lawful c.args.source.now) c.args.set c.args.stock in
    let o = m.returns c.args.set c.args.stock in
    none_added c.args.value.dollars c.args.totals.now o (row_none o c.args.row.now (scenarios m c.args.set).count law (omega (arith, c.requires.room, c.requires.count)) (λ n q. c.in_default.not-Ok n (c.write_row.ensures.answer ∙ q)))
