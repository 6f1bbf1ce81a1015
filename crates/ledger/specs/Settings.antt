-- What an account may be opened with. Assumes nothing.
use Rattle.std.specs.Prelude.{ℕ, Bool, cond, ◌&&◌, ◌==◌, Ok, Err, Result, nat_le}
use Rattle.std.specs.List.{list_all, list_any}
use Rattle.ledger.specs.declared.terms.GivenAmounts.{GivenAmounts}
use Rattle.ledger.specs.declared.terms.Settings.{Settings}
use Rattle.ledger.specs.declared.terms.OpeningRefusal.{OpeningRefusal}
use Rattle.ledger.specs.declared.terms.OpeningRefusal.TheVariants.{Table, Settings as BadSettings}

-- a number lies between two others, both included
abbrev pub between : ℕ → ℕ → ℕ → Bool
between low high n = nat_le low n && nat_le n high

-- each given amount is at most 10^12
abbrev pub given_in_range : GivenAmounts → Bool
given_in_range g =
    nat_le g.liquidation 1000000000000 && (nat_le g.structured_product 1000000000000 && (nat_le g.position_limit 1000000000000 && (nat_le g.credit_risk 1000000000000 && nat_le g.ad_hoc 1000000000000)))

-- a multiplier of 100 to 400 hundredths, a credit of at most 1,000,000,000 and a floor rate of at most 10,000
-- ten-thousandths
abbrev pub rates_in_range : Settings → Bool
rates_in_range s = between 100 400 s.multiplier && (nat_le s.credit 1000000000 && nat_le s.floor_rate 10000)

-- IPO stocks of 0 to 99,999
abbrev pub ipo_in_range : Settings → Bool
ipo_in_range s = list_all (λ x. nat_le x 99999) s.ipo

-- every setting is in its range
abbrev pub settings_in_range : Settings → Bool
settings_in_range s = rates_in_range s && (given_in_range s.given && ipo_in_range s)

-- a stock is one of the IPO stocks
abbrev pub is_ipo : Settings → ℕ → Bool
is_ipo s x = list_any (λ y. y == x) s.ipo

-- may an account be opened over a table of n places: 1 to 4,096 places, and then settings in range
abbrev pub opening_answer : ℕ → Settings → Result (Unit {0}) OpeningRefusal
opening_answer n s = cond (between 1 4096 n) (cond (settings_in_range s) (Ok tt) (Err BadSettings)) (Err Table)
