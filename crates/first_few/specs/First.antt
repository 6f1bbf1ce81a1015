-- What is kept of a sequence: its first few in order, whatever the turn in which they came.
use Rattle.std.specs.Prelude.{◌≡◌, ℕ, Bool, List, take}
use Rattle.std.specs.List.{count_by}
use Rattle.amounts.specs.Tails.{ordered}
use Rattle.amounts.specs.FirstFew.{KeptAreFirst}
use Rattle.first_few.specs.Order.{InOrder}

-- ys are the first n of xs in order
abbrev pub AreFirst : {X : Type 0} → (X → X → Bool) → ℕ → List X → List X → Type 0
AreFirst before n xs ys = ys ≡ take n (ordered before xs)

-- for every sequence and number of places
pub record KeepsTheFirst {X : Type 0} (before : X → X → Bool) : Type 0 where
  -- those that are kept, one after the other, are the first
  pub first : KeptAreFirst before
  -- all of them are brought into order, and each stays as often
  pub in_order : (xs : List X) → InOrder before (ordered before xs)
  pub as_often : (xs : List X) (is : X → Bool) → count_by is (ordered before xs) ≡ count_by is xs
