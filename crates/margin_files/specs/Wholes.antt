-- Cells that are all whole numbers. Assumes nothing.
use Rattle.std.specs.Prelude.{ℕ, List, [], ◌∷◌, ℤ, Some, None, Option, option_map}
use Rattle.margin_files.specs.Numbers.{whole_number}

abbrev pub in_front : Option ℤ → Option (List ℤ) → Option (List ℤ)
in_front None zs = None
in_front (Some z) zs = option_map (λ l. z ∷ l) zs

-- the whole numbers of some cells, if each cell is one
abbrev pub wholes : List (List ℕ) → Option (List ℤ)
wholes [] = Some []
wholes (c ∷ cs) = in_front (whole_number c) (wholes cs)

-- the whole number of the first cell, and the cells behind it
abbrev pub first_whole : List (List ℕ) → Option (ℤ × List (List ℕ))
first_whole [] = None
first_whole (c ∷ cs) = option_map (λ z. (z, cs)) (whole_number c)
