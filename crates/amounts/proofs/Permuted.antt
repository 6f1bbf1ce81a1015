-- A sum does not ask for an order.
use Rattle.std.proofs.Common.{◌≡◌, ℕ, zero, suc, ◌<◌, Bool, true, false, eqb, List, [], ◌∷◌, length, get_or, set, ℤ, ◌+ℤ◌, refl, ap, ◌∙◌, arith, eqb-true}
use borrow.Author.Tests.{eqb-false}
use Rattle.std.proofs.lemmas.List.{get_or-set_same, get_or-set_other, length-set}
use Rattle.std.specs.List.{swap}
use Rattle.std.specs.List.Sorted.{IsPermutation}
use Rattle.std.proofs.lemmas.Int.{ints}
use Rattle.std.proofs.lemmas.List.Sorted.{IsPermutation-keeps}
use Rattle.amounts.specs.Sums.{sum_of}

pub sum_set : {X : Type 0} (f : X → ℤ) (xs : List X) (i : ℕ) (y d : X) → i < length xs → sum_of f (set xs i y) +ℤ f (get_or xs i d) ≡ sum_of f xs +ℤ f y
sum_set f [] i y d h = absurd (omega arith)
sum_set f (x ∷ xs) zero y d h = omega (arith, ints)
sum_set f (x ∷ xs) (suc i) y d h = omega (arith, ints, sum_set f xs i y d (omega arith))

pub read_back : {X : Type 0} (xs : List X) (i j : ℕ) (d : X) → i < length xs → get_or (set xs i (get_or xs j d)) j d ≡ get_or xs j d
read_back xs i j d h = go (eqb j i) refl
  where
    go : (t : Bool) → eqb j i ≡ t → get_or (set xs i (get_or xs j d)) j d ≡ get_or xs j d
    go true e = let q = eqb-true j i e in rw q (get_or-set_same xs i (get_or xs i d) d h)
    go false e = get_or-set_other xs i j (get_or xs j d) d (eqb-false j i e)

pub sum_exchanged : {X : Type 0} (f : X → ℤ) (xs : List X) (i j : ℕ) → i < length xs → j < length xs → sum_of f (swap xs i j) ≡ sum_of f xs
sum_exchanged f [] i j p q = refl
sum_exchanged f (d ∷ ys) i j p q =
    omega (arith, ints, sum_set f (d ∷ ys) i (get_or (d ∷ ys) j d) d p, sum_set f (set (d ∷ ys) i (get_or (d ∷ ys) j d)) j (get_or (d ∷ ys) i d) d (simp length-set q), ap f (read_back (d ∷ ys) i j d p))

pub sum_shuffled : {X : Type 0} (f : X → ℤ) (xs ys : List X) → IsPermutation xs ys → sum_of f ys ≡ sum_of f xs
sum_shuffled f xs ys h = IsPermutation-keeps xs (λ l. sum_of f l ≡ sum_of f xs) refl (λ l i j p q e. sum_exchanged f l i j p q ∙ e) ys h
