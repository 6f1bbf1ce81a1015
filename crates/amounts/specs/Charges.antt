-- Charges on market values, none of which grows faster than what it is made on. Assumes nothing.
use Rattle.std.specs.Prelude.{◌≡◌, ℕ, List, ℤ, pos, ◌+ℤ◌, ◌-ℤ◌, ◌*ℤ◌, neg_ℤ, ◌≤ℤ◌}
use Rattle.std.specs.Int.{int_max}
use Rattle.amounts.specs.Sums.{sum_of}

-- the long size of a market value
abbrev pub long : ℤ → ℤ
long z = int_max z (pos 0)

-- the short size of a market value
abbrev pub short : ℤ → ℤ
short z = int_max (neg_ℤ z) (pos 0)

-- a charge at one percentage for a long and another for a short position
abbrev pub sided : ℕ → ℕ → ℤ → ℤ
sided p q z = pos p *ℤ long z +ℤ pos q *ℤ short z

-- the greater of the gross long and the gross short market value
abbrev pub greater_side : {X : Type 0} → (X → ℤ) → List X → ℤ
greater_side value xs = int_max (sum_of (λ x. long (value x)) xs) (sum_of (λ x. short (value x)) xs)

-- what is due of an aggregate margin: a favourable mark and then the credit are taken off it, and an unfavourable mark is added
abbrev pub due : ℤ → ℤ → ℤ → ℤ
due aggregate mark credit = int_max (pos 0) (int_max (pos 0) (aggregate -ℤ long mark) -ℤ credit) +ℤ short mark

-- A charge on two values together is at most the sum of their charges.
abbrev pub SidedAdds : Type 0
SidedAdds = (p q : ℕ) (x y : ℤ) → sided p q (x +ℤ y) ≤ℤ (sided p q x +ℤ sided p q y)

-- The greater side of two portfolios together is at most the sum of theirs.
abbrev pub GreaterSideAdds : Type 0
GreaterSideAdds = (f g h : ℕ → ℤ) (xs : List ℕ) → ((x : ℕ) → h x ≡ f x +ℤ g x) → greater_side h xs ≤ℤ (greater_side f xs +ℤ greater_side g xs)

-- What two accounts owe together is at most the sum of what they owe.
abbrev pub DueAdds : Type 0
DueAdds = (a₁ a₂ a m₁ m₂ c₁ c₂ : ℤ) → a ≤ℤ (a₁ +ℤ a₂) → pos 0 ≤ℤ c₁ → pos 0 ≤ℤ c₂ → due a (m₁ +ℤ m₂) (c₁ +ℤ c₂) ≤ℤ (due a₁ m₁ c₁ +ℤ due a₂ m₂ c₂)
