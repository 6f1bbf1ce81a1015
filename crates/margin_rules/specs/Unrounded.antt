-- The unrounded total: the same rules with no rounding at any step. It is a whole number over 10^22 times both tail counts:
-- returns count hundred-millionths, weights ten-thousandths and the holiday factor ten-billionths. Assumes nothing.
use Rattle.std.specs.Prelude.{ℕ, ◌+◌, ◌*◌, ◌^◌, List, ℤ, pos, ◌+ℤ◌, ◌*ℤ◌}
use Rattle.std.specs.Int.{int_max}
use Rattle.amounts.specs.Charges.{due}
use Rattle.return_source.specs.Meaning.{Meaning}
use Rattle.ledger.specs.declared.terms.Kind.TheVariants.{Stock}
use Rattle.ledger.specs.declared.terms.Settings.{Settings}
use Rattle.margin_rules.specs.Positions.{Book}
use Rattle.margin_rules.specs.Portfolio.{both_tails, tails_of, loss_of, side_of, floor_of, portfolio_margin}
use Rattle.margin_rules.specs.Charges.{flat_of, flat_margin, corporate_of, corporate_margin, charged, holiday_margin}
use Rattle.margin_rules.specs.Requirement.{given_inside, given_beside, aggregate_margin, rounded_margin, total_margin, portfolio_positions, figures_of}

-- one dollar of the unrounded total
abbrev pub scale : Meaning → ℕ
scale m = 10 ^ 22 * both_tails m

-- portfolio margin over 10^12 times both tail counts
unfoldable pub exact_portfolio : Meaning → Settings → List ℕ → (ℕ → ℤ) → ℤ
exact_portfolio m s us mv = int_max (loss_of ◌*ℤ◌ m s us mv) (pos (10 ^ 8) *ℤ floor_of m s us mv)

-- portfolio and flat-rate margin over 10^12 times both tail counts
unfoldable pub exact_charged : Meaning → Settings → List ℕ → List ℕ → (ℕ → ℤ) → ℤ
exact_charged m s us qs mv = exact_portfolio m s us mv +ℤ pos (10 ^ 6 * both_tails m) *ℤ flat_of m s us qs mv

-- the aggregate with holiday margin, over the scale
unfoldable pub exact_aggregate : Meaning → Settings → List ℕ → List ℕ → Book → ℤ
exact_aggregate m s us qs b =
    pos (10 ^ 10 + m.parameters.holiday_factor) *ℤ exact_charged m s us qs (b.market Stock) +ℤ pos (10 ^ 18 * both_tails m) *ℤ corporate_of m us b.market +ℤ pos (scale m * given_inside s)

-- the unrounded total, over the scale
unfoldable pub unrounded_of : Meaning → Settings → List ℕ → List ℕ → Book → ℤ
unrounded_of m s us qs b =
    due (exact_aggregate m s us qs b) (pos (scale m) *ℤ b.mark) (pos (scale m * s.credit)) +ℤ pos (scale m * given_beside s)

-- opens all figures, rounded and unrounded
unfoldable pub all_figures : Unit {0}
unfolding tails_of loss_of side_of floor_of portfolio_margin flat_of flat_margin corporate_of corporate_margin charged holiday_margin aggregate_margin rounded_margin total_margin portfolio_positions figures_of exact_portfolio exact_charged exact_aggregate unrounded_of
all_figures = tt
