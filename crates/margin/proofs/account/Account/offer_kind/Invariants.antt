use Rattle.std.proofs.Common.{◌≡◌, map, length, take}
use Rattle.margin_rules.specs.Answers.{larger}
use Rattle.margin.specs.Listing.{holding, listed}
use Rattle.margin.proofs.Offering.{OnTheWay}
use Rattle.margin.proofs.Visiting.{stocks}
use Rattle.margin.proofs.account.Account.offer_kind.Given as goal

abbrev pub invariant-loop-stock : goal.invariant-loop-stock
invariant-loop-stock l =
    record {
      same : l.list.places.ghost_name ≡ l.initial.list.places.ghost_name;
      way : OnTheWay larger (length l.initial.list.places.now) (take l.initial.list.len l.initial.list.places.now) l.initial.list.len (map (holding l.self.places.now l.kind) (stocks l.stock-iterator.by l.stock-iterator.places.now)) (listed l.self.places.now l.kind) l.initial.list.places.now l.list.len l.list.places.now;
    }
