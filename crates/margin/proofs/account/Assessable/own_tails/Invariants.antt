use Rattle.std.proofs.Common.{ℕ, List}
use Rattle.amounts.specs.Tails.{tail_sum}
use Rattle.margin_rules.specs.Portfolio.{scenarios, rounded_product, own_totals}
use Rattle.margin.specs.declared.parts.Part.TheVariants.{Own}
use Rattle.margin.specs.Groups.{stock_market}
use Rattle.margin.proofs.Visiting.{Visiting, part_stocks}
use Rattle.margin.proofs.account.Assessable.own_tails.Given as goal

abbrev pub invariant-loop-stock : goal.invariant-loop-stock
invariant-loop-stock g l =
    let m = g.S.ReturnSource.meaning l.self.source.now in
    let xs = l.self.account.places.now in
    let all : List ℕ = part_stocks m l.self.account.settings.now Own xs in
    let left : List ℕ = part_stocks (g.S.ReturnSource.meaning l.stock-iterator.by.source.now) l.stock-iterator.by.settings.now l.stock-iterator.by.part l.stock-iterator.places.now in
    Visiting 8000000000000 (λ x. tail_sum (scenarios m l.set).tail (own_totals rounded_product m l.set (stock_market xs) x)) all left l.sum
