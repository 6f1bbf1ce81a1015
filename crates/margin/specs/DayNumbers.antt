-- The number of a day's refusal. Assumes nothing.
use Rattle.std.specs.Prelude.{ℕ}
use Rattle.ledger.specs.Refusals.{opening_number}
use Rattle.margin_rules.specs.Answers.{assessment_refusal_number}
use Rattle.margin.specs.declared.requests.DayRefusal.{DayRefusal}
use Rattle.margin.specs.declared.requests.DayRefusal.TheVariants.{Opening, Assessing}

-- the number that a refused day carries, and with an assessment what that carries
abbrev pub day_refusal_number : DayRefusal → ℕ
day_refusal_number (Opening r) = opening_number r
day_refusal_number (Assessing r) = assessment_refusal_number r
