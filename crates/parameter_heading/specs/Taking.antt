-- Lines that a function takes from the front of those left, by a judgement of all lines left. Assumes nothing.
use Rattle.std.specs.Prelude.{◌≡◌, ℕ, ◌≤◌, List, length, Ok, Err, Result}
use Rattle.parameter_text.specs.declared.cuts.Lines.{Lines}
use Rattle.parameter_text.specs.Left.{lines_left, text_left}
use Rattle.parameter_heading.specs.declared.terms.Fault.{Fault}

-- what it answers; where it passes, also the lines that it leaves, and that their text is no longer than it was
abbrev pub Takes : {X : Type 0} → (List (List ℕ) → Result (X × List (List ℕ)) Fault) → Lines → Result X Fault → Lines → Type 0
Takes judged before (Ok x) after = (judged (lines_left before) ≡ Ok (x, lines_left after)) × (length (text_left after) ≤ length (text_left before))
Takes judged before (Err f) after = judged (lines_left before) ≡ Err f
