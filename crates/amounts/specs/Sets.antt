-- Lists as sets: membership, elements that differ, and results that do not ask for an order. Assumes nothing.
use Rattle.std.specs.Prelude.{◌≡◌, ◌⊎◌, List, [], ◌∷◌}

-- x is an element of the list
abbrev pub In : {X : Type 0} → X → List X → Type 0
In x [] = ⊥
In x (y ∷ ys) = (x ≡ y) ⊎ In x ys

-- no element stands twice
abbrev pub Apart : {X : Type 0} → List X → Type 0
Apart [] = Unit {0}
Apart (x ∷ xs) = (In x xs → ⊥) × Apart xs

-- every element of the one list is an element of the other
abbrev pub Within : {X : Type 0} → List X → List X → Type 0
Within {X} xs ys = (x : X) → In x xs → In x ys

-- a result made of all elements, the last first
abbrev pub fold_right : {X B : Type 0} → (X → B → B) → B → List X → B
fold_right step b [] = b
fold_right step b (x ∷ xs) = step x (fold_right step b xs)
