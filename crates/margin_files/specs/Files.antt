-- Lines of a name and values, by their place in a file. Assumes nothing.
use Rattle.std.specs.Prelude.{ℕ, ◌-◌, cond, List, [], ◌∷◌, drop, Some, None, Option, option_and_then}
use Rattle.std.specs.Str.{bytes_eq}
use Rattle.parameter_text.specs.Cuts.{cells}

abbrev pub first_of : {X : Type 0} → List X → Option X
first_of [] = None
first_of (x ∷ xs) = Some x

-- the line of a number, counted from 1
abbrev pub line_at : ℕ → List (List ℕ) → Option (List ℕ)
line_at n ls = first_of (drop (n - 1) ls)

-- the cells behind the first one, if that is the name
abbrev pub behind : List ℕ → List (List ℕ) → Option (List (List ℕ))
behind name [] = None
behind name (c ∷ cs) = cond (bytes_eq c name) (Some cs) None

abbrev pub cells_behind : List ℕ → List ℕ → Option (List (List ℕ))
cells_behind name line = behind name (cells line)

-- the cells behind the name on the line of a number
unfoldable pub cells_at : ℕ → List ℕ → List (List ℕ) → Option (List (List ℕ))
cells_at n name ls = option_and_then (cells_behind name) (line_at n ls)

-- the only one of some cells
abbrev pub one_cell : List (List ℕ) → Option (List ℕ)
one_cell [] = None
one_cell (c ∷ []) = Some c
one_cell (c ∷ d ∷ cs) = None

-- the value behind the name on the line of a number
unfoldable pub value_at : ℕ → List ℕ → List (List ℕ) → Option (List ℕ)
value_at n name ls = option_and_then one_cell (cells_at n name ls)
