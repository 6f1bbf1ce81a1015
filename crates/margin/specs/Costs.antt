-- What an entitlement's position costs, over 10^4. Assumes nothing.
use Rattle.std.specs.Prelude.{ℤ, Option}
use Rattle.amounts.specs.Charges.{sided}
use Rattle.return_source.specs.declared.terms.Entitlement.{Entitlement}
use Rattle.margin_rules.specs.Charges.{long_percentage, short_percentage}

-- a market value at the percentage of its side
abbrev pub charged_at : Option Entitlement → ℤ → ℤ
charged_at e v = sided (long_percentage e) (short_percentage e) v
