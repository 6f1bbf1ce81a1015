use Rattle.margin_rules.specs.Positions.{all_kinds}
use Rattle.margin.proofs.Sums.{SoFar}
use Rattle.margin.proofs.Sizes.{sizes}
use Rattle.margin.proofs.account.Account.gross.Given as goal

abbrev pub invariant-loop-kind : goal.invariant-loop-kind
invariant-loop-kind l = SoFar 335544320000000000 (sizes l.self.places.now) all_kinds l.kind-index l.gross
