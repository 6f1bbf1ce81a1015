-- A row of returns: so many cells, each a value from -4 to 4 of at most eight places, and after them only empty cells.
-- A line is asked first for its cells, then each cell for its form, and last each cell for its range. Assumes nothing.
use Rattle.std.specs.Prelude.{◌≡◌, ℕ, ◌≤◌, cond, ◌&&◌, List, [], ◌∷◌, ◌++◌, length, take, drop, replicate, ℤ, pos, neg_ℤ, Ok, Err, Result, nat_le}
use Rattle.parameter_text.specs.declared.terms.Question.{Question}
use Rattle.parameter_text.specs.declared.terms.Question.TheVariants.{Cells}
use Rattle.parameter_text.specs.Questions.{both}
use Rattle.parameter_text.specs.Cuts.{cells, spliced, all_empty}
use Rattle.parameter_text.specs.Decimals.{decimal, Spells}

-- the largest return, in hundred-millionths: 4
abbrev pub largest_return : ℕ
largest_return = 400000000

-- The relation: this line writes these returns.

-- these bytes spell the return v, in hundred-millionths, from -4 to 4
abbrev pub SpellsReturn : List ℕ → ℤ → Type 0
SpellsReturn bs v = Spells 8 (neg_ℤ (pos largest_return)) (pos largest_return) bs v

-- each cell spells its return
abbrev pub SpellReturns : List (List ℕ) → List ℤ → Type 0
SpellReturns [] [] = Unit {0}
SpellReturns [] (v ∷ vs) = ⊥
SpellReturns (c ∷ cs) [] = ⊥
SpellReturns (c ∷ cs) (v ∷ vs) = SpellsReturn c v × SpellReturns cs vs

-- n cells with a comma between two, and then commas alone
abbrev pub Returns : ℕ → List ℕ → List ℤ → Type 0
Returns n line vs = (needed : List (List ℕ)) × (spare : ℕ) × (length needed ≡ n) × (line ≡ spliced 44 needed ++ replicate spare 44) × SpellReturns needed vs

-- The judgement: the returns, or the first question that the line fails.

-- a return, in hundred-millionths, from -4 to 4
abbrev pub return_cell : List ℕ → Result ℤ Question
return_cell bs = decimal 8 (neg_ℤ (pos largest_return)) (pos largest_return) bs

-- the returns of cells, or the first question that any of them fails: all forms are asked before any range
abbrev pub verdict : List (List ℕ) → Result (List ℤ) Question
verdict [] = Ok []
verdict (c ∷ cs) = both (λ v vs. v ∷ vs) (return_cell c) (verdict cs)

-- n cells are needed, and empty ones may follow
abbrev pub returns_cells : ℕ → List (List ℕ) → Result (List ℤ) Question
returns_cells n cs = cond (nat_le n (length cs) && all_empty (drop n cs)) (verdict (take n cs)) (Err Cells)

-- A line passes exactly where it writes n returns, with those returns.
abbrev pub ReturnsPass : Type 0
ReturnsPass = (n : ℕ) (line : List ℕ) (vs : List ℤ) → 1 ≤ n → (returns_cells n (cells line) ≡ Ok vs → Returns n line vs) × (Returns n line vs → returns_cells n (cells line) ≡ Ok vs)

-- an answer and a row say together what was judged: it passes with the row's values, or fails the answer's question
abbrev pub Agrees : {X : Type 0} → Result (List ℤ) Question → Result X Question → List ℤ → Type 0
Agrees j (Ok x) vs = j ≡ Ok vs
Agrees j (Err q) vs = j ≡ Err q
