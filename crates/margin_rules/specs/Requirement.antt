-- From the margins to the total that is called: the aggregate is rounded up to the step, a favourable mark and the credit come
-- off, and an unfavourable mark and three given amounts come on top. Assumes nothing.
use Rattle.std.specs.Prelude.{ℕ, ◌+◌, Bool, ◌&&◌, List, ℤ, pos, ◌+ℤ◌, ◌-ℤ◌}
use Rattle.std.specs.Int.{int_max}
use Rattle.amounts.specs.Sums.{count}
use Rattle.amounts.specs.Rounding.{round_up_int}
use Rattle.amounts.specs.Charges.{long, short, due}
use Rattle.return_source.specs.Meaning.{Meaning}
use Rattle.ledger.specs.declared.terms.Kind.{Kind}
use Rattle.ledger.specs.declared.terms.Kind.TheVariants.{Stock}
use Rattle.ledger.specs.declared.terms.Settings.{Settings}
use Rattle.margin_rules.specs.declared.terms.Assessment.{Assessment}
use Rattle.margin_rules.specs.Positions.{Book}
use Rattle.margin_rules.specs.Portfolio.{in_portfolio, portfolio_margin}
use Rattle.margin_rules.specs.Charges.{flat_margin, corporate_margin, charged, holiday_margin}

-- the given amounts that are part of the aggregate
abbrev pub given_inside : Settings → ℕ
given_inside s = s.given.liquidation + s.given.structured_product

-- the given amounts that come on top of it
abbrev pub given_beside : Settings → ℕ
given_beside s = s.given.position_limit + s.given.credit_risk + s.given.ad_hoc

-- the four margins and the amounts given for the aggregate
unfoldable pub aggregate_margin : Meaning → Settings → List ℕ → List ℕ → Book → ℤ
aggregate_margin m s us qs b =
    charged m s us qs (b.market Stock) +ℤ corporate_margin m us b.market +ℤ holiday_margin m s us qs (b.market Stock) +ℤ pos (given_inside s)

-- the aggregate, rounded up to the step
unfoldable pub rounded_margin : Meaning → Settings → List ℕ → List ℕ → Book → ℤ
rounded_margin m s us qs b = round_up_int m.parameters.step (aggregate_margin m s us qs b)

-- the total that is called
unfoldable pub total_margin : Meaning → Settings → List ℕ → List ℕ → Book → ℤ
total_margin m s us qs b = due (rounded_margin m s us qs b) b.mark (pos s.credit) +ℤ pos (given_beside s)

-- n: the positions in the portfolio tier
unfoldable pub portfolio_positions : Meaning → List ℕ → (Kind → ℕ → Bool) → ℕ
portfolio_positions m us held = count (λ x. in_portfolio m x && held Stock x) us

-- what is left of an amount after a deduction, at least 0
abbrev pub less : ℤ → ℤ → ℤ
less a c = int_max (pos 0) (a -ℤ c)

-- all figures over the stocks us and the rates qs
unfoldable pub figures_of : Meaning → Settings → List ℕ → List ℕ → Book → Assessment
figures_of m s us qs b =
    record {
      portfolio = portfolio_margin m s us (b.market Stock);
      flat_rate = flat_margin m s us qs (b.market Stock);
      corporate_action = corporate_margin m us b.market;
      holiday = holiday_margin m s us qs (b.market Stock);
      aggregate = aggregate_margin m s us qs b;
      rounded = rounded_margin m s us qs b;
      favourable = long b.mark;
      requirement = short b.mark;
      net = less (rounded_margin m s us qs b) (long b.mark);
      credited = less (less (rounded_margin m s us qs b) (long b.mark)) (pos s.credit);
      total = total_margin m s us qs b;
      positions = portfolio_positions m us b.held;
    }
