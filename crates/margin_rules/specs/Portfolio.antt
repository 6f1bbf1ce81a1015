-- Portfolio margin. The stocks of the portfolio tier stand in groups: each IPO stock is one by itself, the others form the
-- common group. A group's total in a scenario adds market value times return; its tail is the lowest totals. The loss weighs
-- the averages of the tails, the floor is a rate of the greater side, and the margin is the greater of the two, rounded off
-- once. Assumes nothing.
use Rattle.std.specs.Prelude.{ℕ, ◌*◌, ◌^◌, Bool, true, false, not, ◌&&◌, List, map, ℤ, pos, ◌+ℤ◌, ◌*ℤ◌, neg_ℤ, Some, None, Option, slice_index_or}
use Rattle.std.specs.List.{range_with_len}
use Rattle.std.specs.Int.{int_max}
use Rattle.amounts.specs.Sums.{sum_of, when}
use Rattle.amounts.specs.Tails.{tail_sum}
use Rattle.amounts.specs.Rounding.{round_off}
use Rattle.amounts.specs.Charges.{long, short}
use Rattle.return_source.specs.declared.terms.ScenarioSet.{ScenarioSet}
use Rattle.return_source.specs.declared.terms.ScenarioSet.TheVariants.{Historical, Stress}
use Rattle.return_source.specs.declared.terms.Scenarios.{Scenarios}
use Rattle.return_source.specs.declared.terms.Tier.{Tier}
use Rattle.return_source.specs.declared.terms.Tier.TheVariants.{Portfolio, Flat}
use Rattle.return_source.specs.Meaning.{Meaning, scenarios_of_set, tier_of}
use Rattle.ledger.specs.declared.terms.Settings.{Settings}
use Rattle.ledger.specs.Settings.{is_ipo}

-- a set of scenarios by its name
abbrev pub scenarios : Meaning → ScenarioSet → Scenarios
scenarios m w = scenarios_of_set m.parameters w

-- a return in hundred-millionths: 0 where there is no row
abbrev pub return_at : Option (List ℤ) → ℕ → ℤ
return_at None i = pos 0
return_at (Some xs) i = slice_index_or xs i (pos 0)

-- market value times return in whole dollars: each product is rounded off
abbrev pub rounded_product : ℤ → ℤ → ℤ
rounded_product v r = round_off (10 ^ 8) (v *ℤ r)

abbrev pub is_portfolio : Option Tier → Bool
is_portfolio None = false
is_portfolio (Some Portfolio) = true
is_portfolio (Some Flat) = false

abbrev pub is_flat : Option Tier → Bool
is_flat None = false
is_flat (Some Portfolio) = false
is_flat (Some Flat) = true

-- does the stock stand in the portfolio tier?
abbrev pub in_portfolio : Meaning → ℕ → Bool
in_portfolio m x = is_portfolio (tier_of m x)

-- is the stock one of the common group?
abbrev pub is_common : Meaning → Settings → ℕ → Bool
is_common m s x = in_portfolio m x && not (is_ipo s x)

-- is the stock a group by itself?
abbrev pub is_own : Meaning → Settings → ℕ → Bool
is_own m s x = in_portfolio m x && is_ipo s x

-- the totals of the common group, scenario by scenario; `times` is the product, exact or rounded off
abbrev pub common_totals : (ℤ → ℤ → ℤ) → Meaning → Settings → List ℕ → ScenarioSet → (ℕ → ℤ) → List ℤ
common_totals times m s us w mv = map (λ i. sum_of (λ x. when (is_common m s x) (times (mv x) (return_at (m.returns w x) i))) us) (range_with_len 0 (scenarios m w).count)

-- the totals of a stock by itself
abbrev pub own_totals : (ℤ → ℤ → ℤ) → Meaning → ScenarioSet → (ℕ → ℤ) → ℕ → List ℤ
own_totals times m w mv x = map (λ i. times (mv x) (return_at (m.returns w x) i)) (range_with_len 0 (scenarios m w).count)

-- the tail sums of all groups together
unfoldable pub tails_of : (ℤ → ℤ → ℤ) → Meaning → Settings → List ℕ → ScenarioSet → (ℕ → ℤ) → ℤ
tails_of times m s us w mv =
    tail_sum (scenarios m w).tail (common_totals times m s us w mv) +ℤ sum_of (λ x. when (is_own m s x) (tail_sum (scenarios m w).tail (own_totals times m w mv x))) us

-- the product of both tail counts
abbrev pub both_tails : Meaning → ℕ
both_tails m = m.parameters.historical.tail * m.parameters.stress.tail

-- minus the weighted tail averages, from both sets' tail sums, over 10^4 times both tail counts
abbrev pub weighed : Meaning → ℤ → ℤ → ℤ
weighed m h t =
    neg_ℤ (pos (m.parameters.historical.weight.ten_thousandths * m.parameters.stress.tail) *ℤ h +ℤ pos (m.parameters.stress.weight.ten_thousandths * m.parameters.historical.tail) *ℤ t)

-- the loss over 10^4 times both tail counts, and over the unit of `times`
unfoldable pub loss_of : (ℤ → ℤ → ℤ) → Meaning → Settings → List ℕ → (ℕ → ℤ) → ℤ
loss_of times m s us mv = weighed m (tails_of times m s us Historical mv) (tails_of times m s us Stress mv)

-- the greater of the long and the short market value of the stocks that pass a test
unfoldable pub side_of : List ℕ → (ℕ → Bool) → (ℕ → ℤ) → ℤ
side_of us member mv = int_max (sum_of (λ x. when (member x) (long (mv x))) us) (sum_of (λ x. when (member x) (short (mv x))) us)

-- the floor over 10^4 times both tail counts
unfoldable pub floor_of : Meaning → Settings → List ℕ → (ℕ → ℤ) → ℤ
floor_of m s us mv = pos (s.floor_rate * both_tails m) *ℤ side_of us (in_portfolio m) mv

-- the margin of the portfolio tier, in whole dollars
unfoldable pub portfolio_margin : Meaning → Settings → List ℕ → (ℕ → ℤ) → ℤ
portfolio_margin m s us mv = round_off (10 ^ 4 * both_tails m) (int_max (loss_of rounded_product m s us mv) (floor_of m s us mv))
