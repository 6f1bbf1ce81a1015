-- A line of the heading is a name and a value. What is left of the file's lines is handed on from line to line, so
-- that a missing line is found where it should stand. Assumes nothing.
use Rattle.std.specs.Prelude.{ℕ, Bool, true, false, cond, ◌&&◌, List, [], ◌∷◌, Ok, Err, Result, ◌==◌}
use Rattle.parameter_text.specs.declared.terms.Question.{Question}
use Rattle.parameter_text.specs.declared.terms.Question.TheVariants.{Presence, Name, Cells}
use Rattle.parameter_text.specs.Questions.{and_then}
use Rattle.parameter_text.specs.Cuts.{cells}
use Rattle.parameter_heading.specs.declared.terms.Fault.{Fault}

abbrev pub fault_at : ℕ → Question → Fault
fault_at k q = record { question = q; line = k }

-- a judgement of line k, whose question becomes the file's fault
abbrev pub at_line : {X : Type 0} → ℕ → Result X Question → Result X Fault
at_line k (Ok x) = Ok x
at_line k (Err q) = Err (fault_at k q)

abbrev pub same_text : List ℕ → List ℕ → Bool
same_text [] [] = true
same_text [] (y ∷ ys) = false
same_text (x ∷ xs) [] = false
same_text (x ∷ xs) (y ∷ ys) = x == y && same_text xs ys

-- is there a first cell, and does it have this text?
abbrev pub first_is : List ℕ → List (List ℕ) → Bool
first_is text [] = false
first_is text (c ∷ cs) = same_text c text

-- one cell and no more
abbrev pub one_cell : List (List ℕ) → Result (List ℕ) Question
one_cell [] = Err Cells
one_cell (v ∷ []) = Ok v
one_cell (v ∷ w ∷ ws) = Err Cells

-- the value that follows the name
abbrev pub value_after : List ℕ → List (List ℕ) → Result (List ℕ) Question
value_after name [] = Err Name
value_after name (c ∷ cs) = cond (same_text c name) (one_cell cs) (Err Name)

-- what a value is worth, or the question that it fails
abbrev pub Judgement : Type 0 → Type 0
Judgement X = List ℕ → Result X Question

-- line k, the first of those left: what it is worth by a judgement of its value, and the lines left after it
abbrev pub valued_line : {X : Type 0} → ℕ → List ℕ → Judgement X → List (List ℕ) → Result (X × List (List ℕ)) Fault
valued_line k name judge [] = Err (fault_at k Presence)
valued_line k name judge (l ∷ ls) = at_line k (and_then (and_then (value_after name (cells l)) judge) (λ x. Ok (x, ls)))
