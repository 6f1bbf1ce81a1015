-- The position of an instrument: the sums of its live entries. Assumes nothing.
use Rattle.std.specs.Prelude.{ℕ, cond, List, ℤ, pos}
use Rattle.amounts.specs.Sums.{sum_of}
use Rattle.ledger.specs.declared.terms.Kind.{Kind}
use Rattle.ledger.specs.declared.terms.Place.{Place}
use Rattle.ledger.specs.declared.terms.Place.TheVariants.{Free, Live, Cancelled}
use Rattle.margin_rules.specs.Positions.{is_of, market_in}
use Rattle.margin.specs.declared.positions.Position.{Position}

-- what a place adds to the quantity of an instrument
abbrev pub quantity_in : Kind → ℕ → Place → ℤ
quantity_in k x Free = pos 0
quantity_in k x (Live n e) = cond (is_of k x e) e.quantity (pos 0)
quantity_in k x (Cancelled n) = pos 0

-- what a place adds to its contract value, in dollars
abbrev pub contract_in : Kind → ℕ → Place → ℤ
contract_in k x Free = pos 0
contract_in k x (Live n e) = cond (is_of k x e) e.contract_value (pos 0)
contract_in k x (Cancelled n) = pos 0

-- what a place adds to the position
abbrev pub part : Kind → ℕ → Place → Position
part k x p = record { quantity = quantity_in k x p; contract_value = contract_in k x p; market_value = market_in k x p }

-- the position
abbrev pub position : Kind → ℕ → List Place → Position
position k x t = record { quantity = sum_of (quantity_in k x) t; contract_value = sum_of (contract_in k x) t; market_value = sum_of (market_in k x) t }
