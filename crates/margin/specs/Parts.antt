-- The parts of an account's positions that are worked out together: all of the portfolio tier for the floor, its common group and
-- its groups of one stock for the tails, and the flat stocks of one rate. Assumes nothing.
use Rattle.std.specs.Prelude.{ℕ, Bool}
use Rattle.return_source.specs.Meaning.{Meaning}
use Rattle.ledger.specs.declared.terms.Settings.{Settings}
use Rattle.margin.specs.declared.parts.Part.{Part}
use Rattle.margin.specs.declared.parts.Part.TheVariants.{Portfolio, Common, Own, FlatAt}
use Rattle.margin_rules.specs.Portfolio.{in_portfolio, is_common, is_own}
use Rattle.margin_rules.specs.Charges.{at_rate}

-- does a stock belong to a part?
abbrev pub belongs : Meaning → Settings → Part → ℕ → Bool
belongs m s Portfolio x = in_portfolio m x
belongs m s Common x = is_common m s x
belongs m s Own x = is_own m s x
belongs m s (FlatAt q) x = at_rate m q x
