-- How the code goes over the positions of a group. Assumes nothing.
use Rattle.std.specs.Prelude.{ℕ, ◌+◌, ◌≤◌, max, List, ℤ}
use Rattle.amounts.specs.Sums.{sum_of}
use Rattle.return_source.specs.Meaning.{Meaning}
use Rattle.ledger.specs.declared.terms.Kind.TheVariants.{Stock}
use Rattle.ledger.specs.declared.terms.Place.{Place}
use Rattle.margin_rules.specs.Positions.{market_in}
use Rattle.margin.specs.Visits.{stock_in, visited}

-- the stocks held, each once
abbrev pub held_stocks : List Place → List ℕ
held_stocks slots = visited (stock_in Stock) slots

-- the market value of a stock
abbrev pub stock_market : List Place → ℕ → ℤ
stock_market slots x = sum_of (market_in Stock x) slots

-- a totals sheet has a place for each scenario of both sets, a row sheet for each of the longer one, and a list for the longer tail
abbrev pub TotalsFit : Meaning → ℕ → Type 0
TotalsFit m n = m.parameters.historical.count + m.parameters.stress.count ≤ n

abbrev pub RowFits : Meaning → ℕ → Type 0
RowFits m n = max m.parameters.historical.count m.parameters.stress.count ≤ n

abbrev pub TailFits : Meaning → ℕ → Type 0
TailFits m n = max m.parameters.historical.tail m.parameters.stress.tail ≤ n
