use Rattle.margin.proofs.CostLaws.{cost}
use Rattle.margin.proofs.Visiting.{Visiting, stocks}
use Rattle.margin.proofs.account.Assessable.kind_cost.Given as goal

abbrev pub invariant-loop-stock : goal.invariant-loop-stock
invariant-loop-stock g l =
    let xs = l.self.account.places.now in
    Visiting 800000000000000 (cost (g.S.ReturnSource.meaning l.self.source.now) l.kind xs) (stocks l.kind xs) (stocks l.stock-iterator.by l.stock-iterator.places.now) l.sum
