-- The tail of a list of totals: the sum of its k least. Assumes nothing.
use Rattle.std.specs.Prelude.{◌≡◌, ℕ, suc, ◌*◌, ◌≤◌, Bool, true, false, cond, List, [], ◌∷◌, length, take, ℤ, pos, ◌+ℤ◌, ◌≤ℤ◌, int_lt}
use Rattle.amounts.specs.Sums.{sum_all}

-- x goes before the first element that is to stand after it
abbrev pub insert_by : {X : Type 0} → (X → X → Bool) → X → List X → List X
insert_by before x [] = x ∷ []
insert_by before x (y ∷ ys) = cond (before x y) (x ∷ y ∷ ys) (y ∷ insert_by before x ys)

-- in order; equals in the order of the list
abbrev pub ordered : {X : Type 0} → (X → X → Bool) → List X → List X
ordered before [] = []
ordered before (x ∷ xs) = insert_by before x (ordered before xs)

-- the sum of the k least totals
abbrev pub tail_sum : ℕ → List ℤ → ℤ
tail_sum k xs = sum_all (take k (ordered int_lt xs))

-- A choice of scenarios is a mark for each of them: how many are chosen.
abbrev pub chosen : List Bool → ℕ
chosen [] = 0
chosen (true ∷ ms) = suc (chosen ms)
chosen (false ∷ ms) = chosen ms

-- the sum of a figure over the chosen elements
abbrev pub sum_at : {X : Type 0} → (X → ℤ) → List Bool → List X → ℤ
sum_at f [] xs = pos 0
sum_at f (m ∷ ms) [] = pos 0
sum_at f (true ∷ ms) (x ∷ xs) = f x +ℤ sum_at f ms xs
sum_at f (false ∷ ms) (x ∷ xs) = sum_at f ms xs

-- the totals of two together, scenario by scenario
abbrev pub added : List ℤ → List ℤ → List ℤ
added [] ys = []
added (x ∷ xs) [] = []
added (x ∷ xs) (y ∷ ys) = (x +ℤ y) ∷ added xs ys

-- two amounts differ by at most d
pub record Near (d : ℕ) (x y : ℤ) : Type 0 where
  pub low : x ≤ℤ (y +ℤ pos d)
  pub high : y ≤ℤ (x +ℤ pos d)

-- two lists of totals differ by at most d in each scenario
abbrev pub AllNear : ℕ → List ℤ → List ℤ → Type 0
AllNear d [] [] = Unit {0}
AllNear d [] (y ∷ ys) = ⊥
AllNear d (x ∷ xs) [] = ⊥
AllNear d (x ∷ xs) (y ∷ ys) = Near d x y × AllNear d xs ys

-- Every choice of as many different scenarios has a sum of at least the tail's.
abbrev pub TailIsLeast : Type 0
TailIsLeast = (xs : List ℤ) (ms : List Bool) → length ms ≡ length xs → tail_sum (chosen ms) xs ≤ℤ sum_at (λ z. z) ms xs

-- The tail of two together is at least the sum of their tails.
abbrev pub TailAdds : Type 0
TailAdds = (k : ℕ) (xs ys : List ℤ) → length xs ≡ length ys → k ≤ length xs → (tail_sum k xs +ℤ tail_sum k ys) ≤ℤ tail_sum k (added xs ys)

-- Totals that differ by at most d have tails that differ by at most k times d.
abbrev pub TailStaysNear : Type 0
TailStaysNear = (k d : ℕ) (xs ys : List ℤ) → AllNear d xs ys → k ≤ length xs → Near (k * d) (tail_sum k xs) (tail_sum k ys)
