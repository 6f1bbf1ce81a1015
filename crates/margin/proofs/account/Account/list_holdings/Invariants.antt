use Rattle.std.proofs.Common.{◌≡◌, [], length, drop}
use Rattle.margin_rules.specs.Positions.{all_kinds}
use Rattle.margin_rules.specs.Answers.{larger}
use Rattle.margin.specs.Listing.{listed}
use Rattle.margin.proofs.Offering.{OnTheWay}
use Rattle.margin.proofs.Gathered.{gathered}
use Rattle.margin.proofs.account.Account.list_holdings.Given as goal

abbrev pub invariant-loop-kind : goal.invariant-loop-kind
invariant-loop-kind l =
    record {
      same : l.list.places.ghost_name ≡ l.initial.list.places.ghost_name;
      way : OnTheWay larger (length l.initial.list.places.now) [] 0 (gathered (listed l.self.places.now) (drop l.kind-index all_kinds)) (gathered (listed l.self.places.now) all_kinds) l.initial.list.places.now l.list.len l.list.places.now;
    }
