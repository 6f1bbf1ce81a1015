-- The positions of a kind as the holdings list takes them, in the order of the visits. Assumes nothing.
use Rattle.std.specs.Prelude.{ℕ, List, map}
use Rattle.amounts.specs.Sums.{sum_of}
use Rattle.ledger.specs.declared.terms.Kind.{Kind}
use Rattle.ledger.specs.declared.terms.Place.{Place}
use Rattle.margin_rules.specs.declared.terms.Holding.{Holding}
use Rattle.margin_rules.specs.Positions.{market_in}
use Rattle.margin.specs.Visits.{stock_in, visited}

-- a position, by its kind and stock
abbrev pub holding : List Place → Kind → ℕ → Holding
holding t k x = record { kind = k; stock = x; market_value = sum_of (market_in k x) t }

-- the positions of a kind
abbrev pub listed : List Place → Kind → List Holding
listed t k = map (holding t k) (visited (stock_in k) t)
