-- The number of each question, and which of two questions comes first. Assumes nothing.
use Rattle.std.specs.Prelude.{ℕ, cond, Ok, Err, Result, nat_le}
use Rattle.parameter_text.specs.declared.terms.Question.{Question}
use Rattle.parameter_text.specs.declared.terms.Question.TheVariants.{Length, Presence, Name, Cells, Form, Range, First, Tier}

-- the number that a refusal carries
abbrev pub question_number : Question → ℕ
question_number Length = 1
question_number Presence = 2
question_number Name = 3
question_number Cells = 4
question_number Form = 5
question_number Range = 6
question_number First = 7
question_number Tier = 8

-- the one of two questions that is asked first
abbrev pub sooner : Question → Question → Question
sooner p q = cond (nat_le (question_number p) (question_number q)) p q

-- two things judged side by side: the first question that either fails
abbrev pub both : {X Y Z : Type 0} → (X → Y → Z) → Result X Question → Result Y Question → Result Z Question
both f (Ok x) (Ok y) = Ok (f x y)
both f (Ok x) (Err q) = Err q
both f (Err p) (Ok y) = Err p
both f (Err p) (Err q) = Err (sooner p q)

-- a second judgement that needs what the first one found
abbrev pub and_then : {X Y E : Type 0} → Result X E → (X → Result Y E) → Result Y E
and_then (Ok x) f = f x
and_then (Err e) f = Err e

-- what was found, seen as something else
abbrev pub seen_as : {X Y E : Type 0} → (X → Y) → Result X E → Result Y E
seen_as f (Ok x) = Ok (f x)
seen_as f (Err e) = Err e
