-- A keeper of the first k of what it is given, by an order. Assumes nothing.
use Rattle.std.specs.Prelude.{◌≡◌, ℕ, ◌≤◌, Bool, true, false, List, [], map, length, take, ℤ, ◌≤ℤ◌, fold}
use Rattle.amounts.specs.Sums.{sum_of}
use Rattle.amounts.specs.Sets.{Apart, Within}
use Rattle.amounts.specs.Tails.{insert_by, ordered, tail_sum}

-- one more element, of which the first k stay
abbrev pub keep : {X : Type 0} → (X → X → Bool) → ℕ → List X → X → List X
keep before k s x = take k (insert_by before x s)

-- what is kept of elements that come one after the other
abbrev pub kept : {X : Type 0} → (X → X → Bool) → ℕ → List X → List X
kept before k xs = fold (keep before k) [] xs

-- a strict order in which two elements that neither precedes the other are one
pub record Strict {X : Type 0} (before : X → X → Bool) : Type 0 where
  pub asym : (x y : X) → before x y ≡ true → before y x ≡ false
  pub trans : (x y z : X) → before x y ≡ true → before y z ≡ true → before x z ≡ true
  pub one : (x y : X) → before x y ≡ false → before y x ≡ false → x ≡ y

-- the order goes by an amount: what precedes has at most the amount of what follows
pub record GoesBy {X : Type 0} (before : X → X → Bool) (amount : X → ℤ) : Type 0 where
  pub yes : (x y : X) → before x y ≡ true → amount x ≤ℤ amount y
  pub no : (x y : X) → before x y ≡ false → amount y ≤ℤ amount x

-- The keeper holds the first k in order.
abbrev pub KeptAreFirst : {X : Type 0} → (X → X → Bool) → Type 0
KeptAreFirst {X} before = (k : ℕ) (xs : List X) → kept before k xs ≡ take k (ordered before xs)

-- The same elements, in any order, are kept alike.
abbrev pub KeptAlike : {X : Type 0} → (X → X → Bool) → Type 0
KeptAlike {X} before = (k : ℕ) (xs ys : List X) → Apart xs → Apart ys → Within xs ys → Within ys xs → kept before k xs ≡ kept before k ys

-- The amounts of what is kept add up to the tail.
abbrev pub KeptSumIsTail : {X : Type 0} → (X → X → Bool) → (X → ℤ) → Type 0
KeptSumIsTail {X} before amount = (k : ℕ) (xs : List X) → k ≤ length xs → sum_of amount (kept before k xs) ≡ tail_sum k (map amount xs)
