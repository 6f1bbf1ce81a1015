-- The size of a tail's sum. Assumes nothing.
use Rattle.std.proofs.Common.{◌≡◌, ℕ, zero, suc, ◌*◌, ◌≤◌, Bool, true, false, cond, List, [], ◌∷◌, take, ℤ, pos, unsigned_abs, int_lt, arith}
use Rattle.std.specs.List.{AllByRecursion as All}
use Rattle.std.proofs.lemmas.Int.{ints}
use Rattle.amounts.specs.Sums.{sum_all}
use Rattle.amounts.specs.Tails.{insert_by, ordered, tail_sum}

module _ {X : Type 0} (P : X → Type 0) (before : X → X → Bool) where
  insert_all : (x : X) (ys : List X) → P x → All P ys → All P (insert_by before x ys)
  insert_all x [] h k = (h, tt)
  insert_all x (y ∷ ys) h k = go (before x y) (insert_all x ys h k.1)
    where
      go : (b : Bool) → All P (insert_by before x ys) → All P (cond b (x ∷ y ∷ ys) (y ∷ insert_by before x ys))
      go true r = (h, k)
      go false r = (k.0, r)

  pub ordered_all : (xs : List X) → All P xs → All P (ordered before xs)
  ordered_all [] k = tt
  ordered_all (x ∷ xs) k = insert_all x (ordered before xs) k.0 (ordered_all xs k.1)

front_small : (b k : ℕ) (xs : List ℤ) → All (λ t. unsigned_abs t ≤ b) xs → unsigned_abs (sum_all (take k xs)) ≤ k * b
front_small b zero xs h = omega arith
front_small b (suc k) [] h = omega arith
front_small b (suc k) (x ∷ xs) h = omega (arith, ints, h.0, front_small b k xs h.1)

pub tail_small : (b k : ℕ) (xs : List ℤ) → All (λ t. unsigned_abs t ≤ b) xs → unsigned_abs (tail_sum k xs) ≤ k * b
tail_small b k xs h = front_small b k (ordered int_lt xs) (ordered_all (λ t. unsigned_abs t ≤ b) int_lt xs h)

-- the tail of totals that are all 0
pub tail_zero : (k : ℕ) (xs : List ℤ) → All (λ t. unsigned_abs t ≤ 0) xs → tail_sum k xs ≡ pos 0
tail_zero k xs h = omega (arith, ints, tail_small 0 k xs h)
