-- The first thirteen lines of a parameter file: twelve names with their values, and the titles of the columns.
-- The weights add up to 1, and each tail count, (1 - level) × scenarios rounded up, is 1 to 100. Assumes nothing.
use Rattle.std.specs.Prelude.{ℕ, zero, suc, ◌+◌, ◌-◌, ◌*◌, ◌/◌, max, Bool, true, false, cond, ◌&&◌, List, [], ◌∷◌, pos, Ok, Err, Result, ◌==◌, nat_le, unsigned_abs}
use Rattle.parameter_text.specs.declared.terms.Question.{Question}
use Rattle.parameter_text.specs.declared.terms.Question.TheVariants.{Presence, Name, Range}
use Rattle.parameter_text.specs.Questions.{and_then, seen_as}
use Rattle.parameter_text.specs.Cuts.{cells}
use Rattle.parameter_text.specs.Decimals.{decimal}
use Rattle.parameter_text.specs.Integers.{integer, stock_cell}
use Rattle.parameter_text.specs.Dates.{date_cell}
use Rattle.return_source.specs.declared.terms.Scenarios.{Scenarios}
use Rattle.parameter_heading.specs.declared.terms.Fault.{Fault}
use Rattle.parameter_heading.specs.declared.terms.Heading.{Heading}
use Rattle.parameter_heading.specs.declared.terms.Weights.{Weights}
use Rattle.parameter_heading.specs.Lines.{fault_at, same_text, valued_line}
use Rattle.parameter_heading.specs.Names.{valuation_date_name, historical_weight_name, stress_weight_name, historical_count_name, stress_count_name, stv_count_name, historical_level_name, stress_level_name, historical_measure_name, stress_measure_name, rounding, holiday_factor_name, instrument_id_name, field_type_name}

-- what a line gives, and the lines left after it
abbrev pub Taken : Type 0 → Type 0
Taken X = Result (X × List (List ℕ)) Fault

-- a share of 1, in ten-thousandths
abbrev pub share_cell : List ℕ → Result ℕ Question
share_cell c = seen_as unsigned_abs (decimal 4 (pos 0) (pos 10000) c)

-- the stress weight, which together with the historical one makes 1
abbrev pub weight_left : ℕ → ℕ → Result ℕ Question
weight_left h s = cond (h + s == 10000) (Ok s) (Err Range)

abbrev pub other_weight : ℕ → List ℕ → Result ℕ Question
other_weight h c = and_then (share_cell c) (weight_left h)

-- how many of the worst scenarios make up the tail: (1 - level) × scenarios, rounded up
abbrev pub tail_count : ℕ → ℕ → ℕ
tail_count level count = ((10000 - level) * count + 9999) / 10000

-- a level whose tail count is 1 to 100
abbrev pub with_tail : ℕ → ℕ → Result ℕ Question
with_tail count level = cond (nat_le 1 (tail_count level count) && nat_le (tail_count level count) 100) (Ok level) (Err Range)

abbrev pub level_cell : ℕ → List ℕ → Result ℕ Question
level_cell count c = and_then (share_cell c) (with_tail count)

-- in ten-billionths
abbrev pub factor_cell : List ℕ → Result ℕ Question
factor_cell c = seen_as unsigned_abs (decimal 10 (pos 0) (pos 10000000000) c)

-- lines 1 to 3
abbrev pub weights : List (List ℕ) → Taken Weights
weights ls =
    and_then (valued_line 1 valuation_date_name date_cell ls) (λ d.
    and_then (valued_line 2 historical_weight_name share_cell d.1) (λ h.
    and_then (valued_line 3 stress_weight_name (other_weight h.0) h.1) (λ s.
    Ok (record { date = d.0; historical = h.0; stress = s.0 }, s.1))))

-- lines 4 to 6: the scenario counts; the third count is not used
abbrev pub counts : List (List ℕ) → Taken (ℕ × ℕ)
counts ls =
    and_then (valued_line 4 historical_count_name (integer 1 4000) ls) (λ h.
    and_then (valued_line 5 stress_count_name (integer 1 4000) h.1) (λ s.
    and_then (valued_line 6 stv_count_name (integer 0 100000) s.1) (λ v.
    Ok ((h.0, s.0), v.1))))

-- lines 7 and 8
abbrev pub levels : ℕ → ℕ → List (List ℕ) → Taken (ℕ × ℕ)
levels historical stress ls =
    and_then (valued_line 7 historical_level_name (level_cell historical) ls) (λ h.
    and_then (valued_line 8 stress_level_name (level_cell stress) h.1) (λ s.
    Ok ((h.0, s.0), s.1)))

-- lines 9 to 12: both measures are 4; the step and the holiday factor
abbrev pub amounts : List (List ℕ) → Taken (ℕ × ℕ)
amounts ls =
    and_then (valued_line 9 historical_measure_name (integer 4 4) ls) (λ a.
    and_then (valued_line 10 stress_measure_name (integer 4 4) a.1) (λ b.
    and_then (valued_line 11 rounding (integer 1 1000000) b.1) (λ r.
    and_then (valued_line 12 holiday_factor_name factor_cell r.1) (λ f.
    Ok ((r.0, f.0), f.1)))))

-- a cell that writes the number k without a zero in front
abbrev pub counts_as : ℕ → Result ℕ Question → Bool
counts_as k (Ok n) = n == k
counts_as k (Err q) = false

-- the cells k, k + 1 and so on, so many
abbrev pub numbered : ℕ → ℕ → List (List ℕ) → Bool
numbered k zero [] = true
numbered k zero (c ∷ cs) = false
numbered k (suc n) [] = false
numbered k (suc n) (c ∷ cs) = counts_as k (stock_cell c) && numbered (k + 1) n cs

-- InstrumentId, FieldType, and the numbers 1 to n
abbrev pub titled : ℕ → List (List ℕ) → Bool
titled n [] = false
titled n (c ∷ []) = false
titled n (c ∷ d ∷ cs) = same_text c instrument_id_name && (same_text d field_type_name && numbered 1 n cs)

-- line 13: the lines left after it
abbrev pub titles : ℕ → List (List ℕ) → Result (List (List ℕ)) Fault
titles n [] = Err (fault_at 13 Presence)
titles n (l ∷ ls) = cond (titled n (cells l)) (Ok ls) (Err (fault_at 13 Name))

abbrev pub scenarios : ℕ → ℕ → ℕ → Scenarios
scenarios weight count level = record { weight = record { ten_thousandths = weight }; count = count; tail = tail_count level count }

abbrev pub headed : Weights → ℕ × ℕ → ℕ × ℕ → ℕ × ℕ → Heading
headed w n l a = record {
  date = w.date;
  historical_level = record { ten_thousandths = l.0 };
  stress_level = record { ten_thousandths = l.1 };
  parameters = record {
    historical = scenarios w.historical n.0 l.0;
    stress = scenarios w.stress n.1 l.1;
    step = a.0;
    holiday_factor = a.1;
  };
}

-- what the first thirteen lines lay down, and the lines left after them; or the first fault
abbrev pub heading : List (List ℕ) → Taken Heading
heading ls =
    and_then (weights ls) (λ w.
    and_then (counts w.1) (λ n.
    and_then (levels n.0.0 n.0.1 n.1) (λ l.
    and_then (amounts l.1) (λ a.
    and_then (titles (max n.0.0 n.0.1) a.1) (λ rest.
    Ok (headed w.0 n.0 l.0 a.0, rest))))))
