use Rattle.margin_rules.specs.Positions.{market_in}
use Rattle.margin.specs.Positions.{quantity_in, contract_in}
use Rattle.margin.proofs.Sums.{SoFar}
use Rattle.margin.proofs.account.Account.position_of.Given as goal

abbrev pub invariant-loop-place : goal.invariant-loop-place
invariant-loop-place l =
    record {
      quantity : SoFar 20000000000 (quantity_in l.kind l.stock) l.self.places.now l.place-index l.sums.quantity;
      contract_value : SoFar 20000000000 (contract_in l.kind l.stock) l.self.places.now l.place-index l.sums.contract_value;
      market_value : SoFar 20000000000 (market_in l.kind l.stock) l.self.places.now l.place-index l.sums.market_value;
    }
