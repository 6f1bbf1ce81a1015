-- Flat-rate, corporate-action and holiday margin. Flat stocks of one rate are set off against one another, others never. An
-- entitlement is charged at the percentage of its side. Holiday margin is a factor of portfolio and flat-rate margin. Each is
-- rounded off once. Assumes nothing.
use Rattle.std.specs.Prelude.{ℕ, ◌*◌, ◌^◌, Bool, false, ◌&&◌, List, ℤ, pos, ◌+ℤ◌, ◌*ℤ◌, Some, None, Option, ◌==◌}
use Rattle.std.specs.List.{range_with_len}
use Rattle.amounts.specs.Sums.{sum_of}
use Rattle.amounts.specs.Rounding.{round_off}
use Rattle.amounts.specs.Charges.{sided}
use Rattle.return_source.specs.declared.terms.Entitlement.{Entitlement}
use Rattle.return_source.specs.declared.terms.EntitlementType.TheVariants as entitlement
use Rattle.return_source.specs.Meaning.{Meaning, tier_of}
use Rattle.ledger.specs.declared.terms.Kind.{Kind}
use Rattle.ledger.specs.declared.terms.Kind.TheVariants.{Stock, Dsp, Sri, Div}
use Rattle.ledger.specs.declared.terms.Settings.{Settings}
use Rattle.margin_rules.specs.Positions.{entitlement_kinds}
use Rattle.margin_rules.specs.Portfolio.{is_flat, side_of, portfolio_margin}

-- all rates from 0 to 1, in ten-thousandths; shut like the stocks
unfoldable pub all_rates : List ℕ
all_rates = range_with_len 0 10001

abbrev pub is_rate : ℕ → Option ℕ → Bool
is_rate q None = false
is_rate q (Some r) = q == r

-- is the stock one of the flat tier at this rate?
abbrev pub at_rate : Meaning → ℕ → ℕ → Bool
at_rate m q x = is_flat (tier_of m x) && is_rate q (m.rate x)

-- what all sub-categories cost, over 10^6: rate times multiplier times the greater side
unfoldable pub flat_of : Meaning → Settings → List ℕ → List ℕ → (ℕ → ℤ) → ℤ
flat_of m s us qs mv = sum_of (λ q. pos (q * s.multiplier) *ℤ side_of us (at_rate m q) mv) qs

-- the margin of the flat tier, in whole dollars
unfoldable pub flat_margin : Meaning → Settings → List ℕ → List ℕ → (ℕ → ℤ) → ℤ
flat_margin m s us qs mv = round_off (10 ^ 6) (flat_of m s us qs mv)

-- the entitlement that an instrument is, if it is one
abbrev pub entitlement_of : Meaning → Kind → ℕ → Option Entitlement
entitlement_of m Stock x = None
entitlement_of m Dsp x = m.entitlement entitlement.Dsp x
entitlement_of m Sri x = m.entitlement entitlement.Sri x
entitlement_of m Div x = m.entitlement entitlement.Div x

-- the percentages in ten-thousandths: 0 where there is no entitlement
abbrev pub long_percentage : Option Entitlement → ℕ
long_percentage None = 0
long_percentage (Some e) = e.long

abbrev pub short_percentage : Option Entitlement → ℕ
short_percentage None = 0
short_percentage (Some e) = e.short

-- what all entitlements cost, over 10^4: market value size times the percentage of its side
unfoldable pub corporate_of : Meaning → List ℕ → (Kind → ℕ → ℤ) → ℤ
corporate_of m us mv =
    sum_of (λ k. sum_of (λ x. sided (long_percentage (entitlement_of m k x)) (short_percentage (entitlement_of m k x)) (mv k x)) us) entitlement_kinds

-- corporate-action margin, in whole dollars
unfoldable pub corporate_margin : Meaning → List ℕ → (Kind → ℕ → ℤ) → ℤ
corporate_margin m us mv = round_off (10 ^ 4) (corporate_of m us mv)

-- portfolio and flat-rate margin together
unfoldable pub charged : Meaning → Settings → List ℕ → List ℕ → (ℕ → ℤ) → ℤ
charged m s us qs mv = portfolio_margin m s us mv +ℤ flat_margin m s us qs mv

-- holiday margin, in whole dollars
unfoldable pub holiday_margin : Meaning → Settings → List ℕ → List ℕ → (ℕ → ℤ) → ℤ
holiday_margin m s us qs mv = round_off (10 ^ 10) (pos m.parameters.holiday_factor *ℤ charged m s us qs mv)
