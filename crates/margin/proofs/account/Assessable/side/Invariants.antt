use Rattle.std.proofs.Common.{ℕ, List}
use Rattle.amounts.specs.Charges.{long, short}
use Rattle.margin.specs.Groups.{stock_market}
use Rattle.margin.proofs.Visiting.{Visiting, part_stocks}
use Rattle.margin.proofs.account.Assessable.side.Given as goal

abbrev pub invariant-loop-stock : goal.invariant-loop-stock
invariant-loop-stock g l =
    let xs = l.self.account.places.now in
    let all : List ℕ = part_stocks (g.S.ReturnSource.meaning l.self.source.now) l.self.account.settings.now l.fn.part xs in
    let left : List ℕ = part_stocks (g.S.ReturnSource.meaning l.stock-iterator.by.source.now) l.stock-iterator.by.settings.now l.stock-iterator.by.part l.stock-iterator.places.now in
    record {
      longs : Visiting 20000000000 (λ x. long (stock_market xs x)) all left l.long;
      shorts : Visiting 20000000000 (λ x. short (stock_market xs x)) all left l.short;
    }
