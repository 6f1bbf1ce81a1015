-- What a fallback source means: every stock stands in the flat tier at one rate, there are no returns and no
-- entitlements, and the parameters are the least that a source can have. Assumes nothing.
use Rattle.std.specs.Prelude.{ℕ, Bool, cond, ◌&&◌, Some, None, Ok, Err, Result, nat_le}
use Rattle.return_source.specs.declared.terms.Parameters.{Parameters}
use Rattle.return_source.specs.declared.terms.Scenarios.{Scenarios}
use Rattle.return_source.specs.Meaning.{Meaning}
use Rattle.fallback_source.specs.declared.terms.RateRefusal.{RateRefusal}
use Rattle.fallback_source.specs.declared.terms.RateRefusal.TheVariants.{Rate}

-- the lowest and the highest rate, in ten-thousandths
abbrev pub lowest_rate : ℕ
lowest_rate = 600

abbrev pub highest_rate : ℕ
highest_rate = 10000

-- one scenario, which is the tail too, at a weight in ten-thousandths
abbrev pub one_scenario : ℕ → Scenarios
one_scenario weight = record { weight = record { ten_thousandths = weight }; count = 1; tail = 1 }

-- all weight on the historical set, a step of 250,000 dollars and no holiday margin
abbrev pub fallback_parameters : Parameters
fallback_parameters = record { historical = one_scenario 10000; stress = one_scenario 0; step = 250000; holiday_factor = 0 }

-- a number that a stock can have
abbrev pub is_stock : ℕ → Bool
is_stock s = nat_le 1 s && nat_le s 99999

-- every stock at one rate
abbrev pub fallback_meaning : ℕ → Meaning
fallback_meaning rate = record {
  parameters = fallback_parameters;
  returns = λ w s. None;
  rate = λ s. cond (is_stock s) (Some rate) None;
  entitlement = λ t s. None;
}

-- what the source made from a rate means, or why none is made
abbrev pub fallback : ℕ → Result Meaning RateRefusal
fallback rate = cond (nat_le lowest_rate rate && nat_le rate highest_rate) (Ok (fallback_meaning rate)) (Err Rate)
