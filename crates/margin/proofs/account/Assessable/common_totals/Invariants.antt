use Rattle.std.proofs.Common.{ℕ, List}
use Rattle.margin_rules.specs.Portfolio.{scenarios, return_at, rounded_product}
use Rattle.margin.specs.declared.parts.Part.TheVariants.{Common}
use Rattle.margin.specs.Groups.{stock_market}
use Rattle.margin.proofs.Visiting.{SoFar, part_stocks}
use Rattle.margin.proofs.account.Assessable.common_totals.Given as goal

abbrev pub invariant-loop-stock : goal.invariant-loop-stock
invariant-loop-stock g l =
    let m = g.S.ReturnSource.meaning l.self.source.now in
    let xs = l.self.account.places.now in
    let all : List ℕ = part_stocks m l.self.account.settings.now Common xs in
    let left : List ℕ = part_stocks (g.S.ReturnSource.meaning l.stock-iterator.by.source.now) l.stock-iterator.by.settings.now l.stock-iterator.by.part l.stock-iterator.places.now in
    SoFar (λ j x. rounded_product (stock_market xs x) (return_at (m.returns l.set x) j)) (scenarios m l.set).count all left l.totals
