-- Figures worked out by hand, over the definitions. Assumes nothing.
use Rattle.std.specs.Prelude.{◌≡◌, ℕ, ◌*◌, ◌^◌, cond, ◌==◌, List, [], ◌∷◌, replicate, ℤ, pos, neg_ℤ, Some, None, Option}
use Rattle.amounts.specs.Rounding.{round_up}
use Rattle.return_source.specs.declared.terms.Entitlement.{Entitlement}
use Rattle.return_source.specs.declared.terms.EntitlementType.{EntitlementType}
use Rattle.return_source.specs.declared.terms.EntitlementType.TheVariants.{Dsp, Sri, Div}
use Rattle.return_source.specs.declared.terms.Scenarios.{Scenarios}
use Rattle.return_source.specs.declared.terms.ScenarioSet.{ScenarioSet}
use Rattle.return_source.specs.declared.terms.ScenarioSet.TheVariants.{Historical, Stress}
use Rattle.return_source.specs.Meaning.{Meaning}
use Rattle.fallback_source.specs.Fallback.{fallback_meaning}
use Rattle.ledger.specs.declared.terms.Kind.TheVariants.{Stock}
use Rattle.ledger.specs.declared.terms.Settings.{Settings}
use Rattle.ledger.specs.declared.terms.GivenAmounts.{GivenAmounts}
use Rattle.ledger.specs.Calls.{Call, posts, cancels}
use Rattle.margin_rules.specs.declared.terms.Assessment.{Assessment}
use Rattle.margin_rules.specs.Positions.{all_stocks}
use Rattle.margin_rules.specs.Portfolio.{rounded_product, common_totals, loss_of}
use Rattle.margin_rules.specs.Charges.{all_rates, flat_margin}
use Rattle.margin_rules.specs.Requirement.{rounded_margin, figures_of}
use Rattle.margin_rules.specs.Laws.{book_after, unrounded_after}

-- ten-thousandths of a weight, a count of scenarios and of the worst of them
abbrev pub scenarios_of : ℕ → ℕ → ℕ → Scenarios
scenarios_of w n k = record { weight = record { ten_thousandths = w }; count = n; tail = k }

abbrev pub no_amounts : GivenAmounts
no_amounts = record { liquidation = 0; structured_product = 0; position_limit = 0; credit_risk = 0; ad_hoc = 0 }

abbrev pub no_entitlement : EntitlementType → ℕ → Option Entitlement
no_entitlement t x = None

-- settings with a multiplier of 1 and nothing else
abbrev pub plain_settings : Settings
plain_settings = record { multiplier = 100; credit = 0; floor_rate = 0; given = no_amounts; ipo = replicate 16 0 }

-- ---- one scenario in each set, in which stocks 11 and 22 gain 0.01

abbrev pub gaining : ScenarioSet → ℕ → Option (List ℤ)
gaining w x = cond (x == 11) (Some (pos 1000000 ∷ [])) (cond (x == 22) (Some (pos 1000000 ∷ [])) None)

abbrev pub one_scenario : Meaning
one_scenario =
    record {
      parameters = record { historical = scenarios_of 7500 1 1; stress = scenarios_of 2500 1 1; step = 1; holiday_factor = 0 };
      returns = gaining;
      rate = λ x. None;
      entitlement = no_entitlement;
    }

-- ---- a day

abbrev pub day_returns : ScenarioSet → ℕ → Option (List ℤ)
day_returns Historical x =
    cond (x == 11) (Some (pos 1000000 ∷ (neg_ℤ (pos 2000000) ∷ (pos 3000000 ∷ (neg_ℤ (pos 1000000) ∷ [])))))
    (cond (x == 22) (Some (neg_ℤ (pos 500000) ∷ (pos 1000000 ∷ (neg_ℤ (pos 2000000) ∷ (pos 1500000 ∷ []))))) None)
day_returns Stress x =
    cond (x == 11) (Some (pos 5000000 ∷ (neg_ℤ (pos 10000000) ∷ (pos 2000000 ∷ (pos 0 ∷ (neg_ℤ (pos 4000000) ∷ []))))))
    (cond (x == 22) (Some (neg_ℤ (pos 2000000) ∷ (pos 3000000 ∷ (neg_ℤ (pos 1000000) ∷ (pos 500000 ∷ (neg_ℤ (pos 6000000) ∷ [])))))) None)

abbrev pub day_entitlement : EntitlementType → ℕ → Option Entitlement
day_entitlement Dsp x = cond (x == 44) (Some (record { price = 40000; short = 5000; long = 2500 })) None
day_entitlement Sri x = None
day_entitlement Div x = None

-- four historical and five stress scenarios, of which two make up each tail
abbrev pub day_meaning : Meaning
day_meaning =
    record {
      parameters = record { historical = scenarios_of 7500 4 2; stress = scenarios_of 2500 5 2; step = 100; holiday_factor = 4142135623 };
      returns = day_returns;
      rate = λ x. cond (x == 33) (Some 1200) None;
      entitlement = day_entitlement;
    }

abbrev pub day_settings : Settings
day_settings =
    record {
      multiplier = 100;
      credit = 1000;
      floor_rate = 250;
      given = record { liquidation = 40; structured_product = 0; position_limit = 50; credit_risk = 0; ad_hoc = 0 };
      ipo = replicate 16 0;
    }

-- five posts, a cancel of the last, and another post of it
abbrev pub day_calls : List Call
day_calls =
    posts (record { number = 1; kind = 0; stock = 11; quantity = pos 1000; contract_value = pos 99000; market_value = pos 100000 }) ∷
    (posts (record { number = 2; kind = 0; stock = 22; quantity = neg_ℤ (pos 2000); contract_value = neg_ℤ (pos 41000); market_value = neg_ℤ (pos 40000) }) ∷
    (posts (record { number = 3; kind = 0; stock = 33; quantity = pos 500; contract_value = pos 5200; market_value = pos 5000 }) ∷
    (posts (record { number = 4; kind = 1; stock = 44; quantity = pos 100; contract_value = pos 0; market_value = pos 400 }) ∷
    (posts (record { number = 5; kind = 0; stock = 11; quantity = pos 500; contract_value = pos 50000; market_value = pos 50000 }) ∷
    (cancels 5 ∷
    (posts (record { number = 5; kind = 0; stock = 11; quantity = pos 500; contract_value = pos 50000; market_value = pos 50000 }) ∷ []))))))

-- what assessing the day answers
abbrev pub day_answer : Assessment
day_answer =
    record {
      portfolio = pos 3100;
      flat_rate = pos 600;
      corporate_action = pos 100;
      holiday = pos 1533;
      aggregate = pos 5373;
      rounded = pos 5400;
      favourable = pos 2200;
      requirement = pos 0;
      net = pos 3200;
      credited = pos 2200;
      total = pos 2250;
      positions = 2;
    }

-- ---- one rate for every stock

-- one stock long at 1,000,000, another short at 400,000
abbrev pub two_sides : List Call
two_sides =
    posts (record { number = 1; kind = 0; stock = 5; quantity = pos 1000; contract_value = pos 1000000; market_value = pos 1000000 }) ∷
    (posts (record { number = 2; kind = 0; stock = 700; quantity = neg_ℤ (pos 1000); contract_value = neg_ℤ (pos 400000); market_value = neg_ℤ (pos 400000) }) ∷ [])

-- the figures, in whole dollars where nothing else is said
pub record WorkedFigures : Type 0 where
  -- 50 at a return of 0.01 counts as 1, and -50 as -1
  pub product_up : rounded_product (pos 50) (pos 1000000) ≡ pos 1
  pub product_down : rounded_product (neg_ℤ (pos 50)) (pos 1000000) ≡ neg_ℤ (pos 1)
  -- two such in a group are 2
  pub group_total : common_totals rounded_product one_scenario plain_settings (11 ∷ (22 ∷ [])) Historical (λ x. pos 50) ≡ pos 2 ∷ []
  -- 46,929,904 rounds up to a multiple of 10,000, which stays
  pub rounded_up : round_up 10000 46929904 ≡ 46930000
  pub rounded_stays : round_up 10000 46930000 ≡ 46930000
  -- both totals are 100 and both tails one scenario: the loss is -100, over 10^4
  pub historical_gain : common_totals rounded_product one_scenario plain_settings (11 ∷ []) Historical (λ x. pos 10000) ≡ pos 100 ∷ []
  pub stress_gain : common_totals rounded_product one_scenario plain_settings (11 ∷ []) Stress (λ x. pos 10000) ≡ pos 100 ∷ []
  pub gain_is_negative : loss_of rounded_product one_scenario plain_settings (11 ∷ []) (λ x. pos 10000) ≡ neg_ℤ (pos (100 * 10 ^ 4))
  -- the day's figures
  pub day_figures : figures_of day_meaning day_settings all_stocks all_rates (book_after 16 day_calls) ≡ day_answer
  -- the day's unrounded total, 2,222.59018051 over the scale, which is 10^22 times both tail counts
  pub day_unrounded : unrounded_after day_meaning day_settings 16 day_calls ≡ pos (222259018051 * 10 ^ 14 * 4)
  -- every stock at the rate 0.06
  pub single_flat : flat_margin (fallback_meaning 600) plain_settings all_stocks all_rates ((book_after 16 two_sides).market Stock) ≡ pos 60000
  pub single_rounded : rounded_margin (fallback_meaning 600) plain_settings all_stocks all_rates (book_after 16 two_sides) ≡ pos 250000
