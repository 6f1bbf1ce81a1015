-- A text cut into lines, and a line cut into cells. A line ends in LF or in CR LF, and the last end may be
-- missing; a CR that no LF follows belongs to its cell. Cells stand between commas. Assumes nothing.
use Rattle.std.specs.Prelude.{◌≡◌, ℕ, ◌+◌, Bool, true, false, cond, not, ◌&&◌, ◌⊎◌, List, [], ◌∷◌, ◌++◌, take, drop, Some, None, Option, ◌==◌}
use Rattle.std.specs.List.{prefix_len}

abbrev pub onto : ℕ → List (List ℕ) → List (List ℕ)
onto x [] = (x ∷ []) ∷ []
onto x (l ∷ ls) = (x ∷ l) ∷ ls

-- the parts of a list that is cut at each b: one more than there are b
abbrev pub split : ℕ → List ℕ → List (List ℕ)
split b [] = [] ∷ []
split b (x ∷ xs) = cond (x == b) ([] ∷ split b xs) (onto x (split b xs))

-- the parts of what follows a cut, if there was one
abbrev pub parts_of : ℕ → Option (List ℕ) → List (List ℕ)
parts_of b None = []
parts_of b (Some xs) = split b xs

-- parts with one b between two
abbrev pub spliced : ℕ → List (List ℕ) → List ℕ
spliced b [] = []
spliced b (c ∷ []) = c
spliced b (c ∷ d ∷ cs) = c ++ b ∷ spliced b (d ∷ cs)

-- the cells of a line
abbrev pub cells : List ℕ → List (List ℕ)
cells line = split 44 line

abbrev pub empty : List ℕ → Bool
empty [] = true
empty (x ∷ xs) = false

abbrev pub all_empty : List (List ℕ) → Bool
all_empty [] = true
all_empty (c ∷ cs) = empty c && all_empty cs

-- a line without the CR that stands before its LF
abbrev pub chomped : List ℕ → List ℕ
chomped [] = []
chomped (x ∷ []) = cond (x == 13) [] (x ∷ [])
chomped (x ∷ y ∷ ys) = x ∷ chomped (y ∷ ys)

-- no line follows the last LF where the text ends there
abbrev pub last_line : List ℕ → List (List ℕ)
last_line [] = []
last_line (x ∷ l) = (x ∷ l) ∷ []

abbrev pub ended_lines : List (List ℕ) → List (List ℕ)
ended_lines [] = []
ended_lines (l ∷ []) = last_line l
ended_lines (l ∷ m ∷ ls) = chomped l ∷ ended_lines (m ∷ ls)

-- the lines of a text
abbrev pub lines : List ℕ → List (List ℕ)
lines xs = ended_lines (split 10 xs)

-- the first line of a text, and what follows it

abbrev pub ended : List ℕ → List ℕ → List ℕ
ended line [] = line
ended line (lf ∷ rest) = chomped line

abbrev pub within_line : ℕ → Bool
within_line b = not (b == 10)

abbrev pub line_of : List ℕ → List ℕ
line_of xs = ended (take (prefix_len within_line xs) xs) (drop (prefix_len within_line xs) xs)

abbrev pub after_line : List ℕ → List ℕ
after_line xs = drop (prefix_len within_line xs + 1) xs

-- the same as a relation: an LF, a CR and an LF, or the text's end
abbrev pub Starts : List ℕ → List ℕ → List ℕ → Type 0
Starts text line rest = (text ≡ line ++ 10 ∷ rest) ⊎ ((text ≡ line ++ 13 ∷ 10 ∷ rest) ⊎ ((text ≡ line) × (rest ≡ [])))
