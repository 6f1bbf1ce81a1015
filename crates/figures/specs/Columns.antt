-- Figures at the right of a column. Assumes nothing.
use Rattle.std.specs.Prelude.{◌≡◌, ℕ, zero, suc, ◌-◌, List, [], ◌++◌, length, Some, None, codes, Option}
use Rattle.figures.specs.Figures.{separated}

-- so many spaces
abbrev pub spaces : ℕ → List ℕ
spaces zero = []
spaces (suc k) = spaces k ++ codes " "

-- a text, where it is known, has so many bytes
abbrev pub Long : ℕ → Option (List ℕ) → Type 0
Long n None = Unit {0}
Long n (Some text) = n ≡ length text

-- a text at the right of a column of some width, or as it is where it is wider
abbrev pub right : ℕ → List ℕ → List ℕ
right width text = spaces (width - length text) ++ text

-- the same of a text that may not be known
abbrev pub at_right : ℕ → Option (List ℕ) → Option (List ℕ)
at_right width None = None
at_right width (Some text) = Some (right width text)

-- a count at the right of a column of fourteen places
unfoldable pub count_cell : ℕ → List ℕ
count_cell n = right 14 (separated 3 n)
