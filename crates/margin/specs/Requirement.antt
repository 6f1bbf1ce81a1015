-- The figures that follow from three margins, the mark and a number of positions. Assumes nothing.
use Rattle.std.specs.Prelude.{ℕ, ◌^◌, ℤ, pos, ◌+ℤ◌, ◌*ℤ◌}
use Rattle.amounts.specs.Rounding.{round_off, round_up_int}
use Rattle.amounts.specs.Charges.{long, short}
use Rattle.return_source.specs.declared.terms.Parameters.{Parameters}
use Rattle.ledger.specs.declared.terms.Settings.{Settings}
use Rattle.margin_rules.specs.declared.terms.Assessment.{Assessment}
use Rattle.margin_rules.specs.Requirement.{given_inside, given_beside, less}

-- holiday margin on portfolio and flat-rate margin together
abbrev pub holiday_on : Parameters → ℤ → ℤ
holiday_on p charged = round_off (10 ^ 10) (pos p.holiday_factor *ℤ charged)

-- the aggregate, of portfolio and flat-rate margin together and of corporate-action margin
abbrev pub aggregate_on : Parameters → Settings → ℤ → ℤ → ℤ
aggregate_on p s charged corporate = charged +ℤ corporate +ℤ holiday_on p charged +ℤ pos (given_inside s)

-- the figures from portfolio, flat-rate and corporate-action margin, the mark, and how many positions there are
abbrev pub figures_on : Parameters → Settings → ℤ → ℤ → ℤ → ℤ → ℕ → Assessment
figures_on p s portfolio flat corporate mark n =
    let aggregate = aggregate_on p s (portfolio +ℤ flat) corporate in
    let rounded = round_up_int p.step aggregate in
    let net = less rounded (long mark) in
    let credited = less net (pos s.credit) in
    record {
      portfolio = portfolio;
      flat_rate = flat;
      corporate_action = corporate;
      holiday = holiday_on p (portfolio +ℤ flat);
      aggregate = aggregate;
      rounded = rounded;
      favourable = long mark;
      requirement = short mark;
      net = net;
      credited = credited;
      total = credited +ℤ short mark +ℤ pos (given_beside s);
      positions = n;
    }
