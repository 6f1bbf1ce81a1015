-- Sums of amounts. Assumes nothing.
use Rattle.std.specs.Prelude.{ℕ, ◌+◌, Bool, cond, List, [], ◌∷◌, ℤ, pos, ◌+ℤ◌}

-- the sum of a figure over a list
abbrev pub sum_of : {X : Type 0} → (X → ℤ) → List X → ℤ
sum_of f [] = pos 0
sum_of f (x ∷ xs) = f x +ℤ sum_of f xs

-- the sum of a list of amounts
abbrev pub sum_all : List ℤ → ℤ
sum_all xs = sum_of (λ z. z) xs

-- an amount that counts only where a test holds
abbrev pub when : Bool → ℤ → ℤ
when b z = cond b z (pos 0)

-- how many elements pass a test
abbrev pub count : {X : Type 0} → (X → Bool) → List X → ℕ
count p [] = 0
count p (x ∷ xs) = cond (p x) 1 0 + count p xs
