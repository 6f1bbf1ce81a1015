-- The questions of a row, cell after cell. Assumes nothing.
use Rattle.std.specs.Prelude.{ℕ, cond, List, length, take, ℤ, Some, None, Ok, Err, Option, Result, nat_le}
use Rattle.parameter_text.specs.declared.terms.Question.{Question}
use Rattle.parameter_text.specs.declared.terms.Question.TheVariants.{Cells}
use Rattle.parameter_text.specs.Questions.{sooner}
use Rattle.parameter_rows.specs.Returns.{verdict}

-- the first of the question that failed so far, if any, and one more
abbrev pub sooner_failed : Option Question → Question → Question
sooner_failed None q = q
sooner_failed (Some p) q = sooner p q

-- the returns so far, or the first question that failed
abbrev pub outcome : Option Question → List ℤ → Result (List ℤ) Question
outcome None vs = Ok vs
outcome (Some q) vs = Err q

-- the first n cells are asked in their turn, if there are so many
abbrev pub asked : ℕ → List (List ℕ) → Result (List ℤ) Question
asked n cs = cond (nat_le n (length cs)) (verdict (take n cs)) (Err Cells)
