use Rattle.margin.proofs.Sizes.{size}
use Rattle.margin.proofs.Visiting.{Visiting, stocks}
use Rattle.margin.proofs.account.Account.gross_of_kind.Given as goal

abbrev pub invariant-loop-stock : goal.invariant-loop-stock
invariant-loop-stock l =
    Visiting 81920000000000 (size l.kind l.self.places.now) (stocks l.kind l.self.places.now) (stocks l.stock-iterator.by l.stock-iterator.places.now) l.gross
