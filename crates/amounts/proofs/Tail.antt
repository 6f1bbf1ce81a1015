-- The tail's sum is the least over all choices of as many places.
use Rattle.std.proofs.Common.{◌≡◌, ℕ, zero, suc, ◌+◌, ◌*◌, ◌<◌, ◌≤◌, Bool, true, false, cond, ◌⊎◌, List, [], ◌∷◌, map, length, take, ℤ, pos, ◌+ℤ◌, ◌≤ℤ◌, sym, refl, ap, ◌∙◌, inl, inr, suc-mul, add_comm, arith}
use lib.Signed.{lt_z}
use Rattle.std.proofs.lemmas.Int.{ints}
use Rattle.amounts.specs.Sums.{sum_of}
use Rattle.amounts.specs.Tails.{insert_by, ordered, tail_sum, chosen, sum_at, added, Near, AllNear, TailIsLeast, TailAdds, TailStaysNear}

-- every element has at least the key z
abbrev pub Low : {X : Type 0} → (X → ℤ) → ℤ → List X → Type 0
Low key z [] = Unit {0}
Low key z (x ∷ xs) = (z ≤ℤ key x) × Low key z xs

abbrev pub Sorted : {X : Type 0} → (X → ℤ) → List X → Type 0
Sorted key [] = Unit {0}
Sorted key (x ∷ xs) = Low key (key x) xs × Sorted key xs

pub take_nil : {X : Type 0} (k : ℕ) → take {A = X} k [] ≡ []
take_nil zero = refl
take_nil (suc k) = refl

module _ {X : Type 0} (before : X → X → Bool) (key : X → ℤ) (yes : (x y : X) → before x y ≡ true → key x ≤ℤ key y) (no : (x y : X) → before x y ≡ false → key y ≤ℤ key x) where
  abbrev first : ℕ → List X → ℤ
  first k s = sum_of key (take k s)

  by_test : (P : List X → Type 0) (x y : X) (a b : List X) → (before x y ≡ true → P a) → (before x y ≡ false → P b) → P (cond (before x y) a b)
  by_test P x y a b f g = go (before x y) refl
    where
      go : (t : Bool) → before x y ≡ t → P (cond t a b)
      go true e = f e
      go false e = g e

  -- the first k + 1 of a list with x cost at most x and the first k
  insert_at_most : (k : ℕ) (x : X) (s : List X) → first (suc k) (insert_by before x s) ≤ℤ (key x +ℤ first k s)
  insert_at_most k x [] = omega (arith, ints)
  insert_at_most zero x (y ∷ ys) = by_test (λ l. first 1 l ≤ℤ (key x +ℤ pos 0)) x y _ _ (λ e. omega (arith, ints)) (λ e. omega (arith, ints, no x y e))
  insert_at_most (suc k) x (y ∷ ys) =
      by_test (λ l. first (suc (suc k)) l ≤ℤ (key x +ℤ first (suc k) (y ∷ ys))) x y _ _ (λ e. omega (arith, ints)) (λ e. omega (arith, ints, insert_at_most k x ys))

  low_at_most : (k : ℕ) (z : ℤ) (s : List X) → Low key z s → k < length s → (z +ℤ first k s) ≤ℤ first (suc k) s
  low_at_most k z [] l h = absurd (omega arith)
  low_at_most zero z (y ∷ ys) l h = omega (arith, ints, l.0)
  low_at_most (suc k) z (y ∷ ys) l h = omega (arith, ints, low_at_most k z ys l.1 (omega arith))

  low_trans : (w z : ℤ) (s : List X) → w ≤ℤ z → Low key z s → Low key w s
  low_trans w z [] h l = tt
  low_trans w z (y ∷ ys) h l = (omega (arith, ints, l.0), low_trans w z ys h l.1)

  -- and at most the first k + 1 without x
  insert_lowers : (k : ℕ) (x : X) (s : List X) → Sorted key s → k < length s → first (suc k) (insert_by before x s) ≤ℤ first (suc k) s
  insert_lowers k x [] o h = absurd (omega arith)
  insert_lowers zero x (y ∷ ys) o h =
      by_test (λ l. first 1 l ≤ℤ first 1 (y ∷ ys)) x y _ _ (λ e. omega (arith, ints, yes x y e)) (λ e. omega (arith, ints))
  insert_lowers (suc k) x (y ∷ ys) o h =
      by_test (λ l. first (suc (suc k)) l ≤ℤ first (suc (suc k)) (y ∷ ys)) x y _ _
      (λ e. low_at_most (suc k) (key x) (y ∷ ys) (yes x y e, low_trans (key x) (key y) ys (yes x y e) o.0) h)
      (λ e. omega (arith, ints, insert_lowers k x ys o.1 (omega arith)))

  -- and it is one of the two
  insert_either : (k : ℕ) (x : X) (s : List X) → (first (suc k) (insert_by before x s) ≡ key x +ℤ first k s) ⊎ ((first (suc k) (insert_by before x s) ≡ first (suc k) s) × (k < length s))
  insert_either k x [] = inl refl
  insert_either zero x (y ∷ ys) =
      by_test (λ l. (first 1 l ≡ key x +ℤ pos 0) ⊎ ((first 1 l ≡ first 1 (y ∷ ys)) × (0 < suc (length ys)))) x y _ _ (λ e. inl refl) (λ e. inr (refl, omega arith))
  insert_either (suc k) x (y ∷ ys) =
      by_test (λ l. (first (suc (suc k)) l ≡ key x +ℤ first (suc k) (y ∷ ys)) ⊎ ((first (suc (suc k)) l ≡ first (suc (suc k)) (y ∷ ys)) × (suc k < suc (length ys)))) x y _ _
      (λ e. inl refl)
      (λ e. elim (insert_either k x ys) [ inl p ↦ inl (omega (arith, ints)) | inr p ↦ inr (omega (arith, ints), omega arith) ])

  low_insert : (z : ℤ) (x : X) (s : List X) → z ≤ℤ key x → Low key z s → Low key z (insert_by before x s)
  low_insert z x [] h l = (h, tt)
  low_insert z x (y ∷ ys) h l = by_test (Low key z) x y _ _ (λ e. (h, l)) (λ e. (l.0, low_insert z x ys h l.1))

  sorted_insert : (x : X) (s : List X) → Sorted key s → Sorted key (insert_by before x s)
  sorted_insert x [] o = (tt, tt)
  sorted_insert x (y ∷ ys) o =
      by_test (Sorted key) x y _ _ (λ e. ((yes x y e, low_trans (key x) (key y) ys (yes x y e) o.0), o))
      (λ e. (low_insert (key y) x ys (no x y e) o.0, sorted_insert x ys o.1))

  pub sorted_ordered : (xs : List X) → Sorted key (ordered before xs)
  sorted_ordered [] = tt
  sorted_ordered (x ∷ xs) = sorted_insert x (ordered before xs) (sorted_ordered xs)

  pub length_insert : (x : X) (s : List X) → length (insert_by before x s) ≡ suc (length s)
  length_insert x [] = refl
  length_insert x (y ∷ ys) = by_test (λ l. length l ≡ suc (suc (length ys))) x y _ _ (λ e. refl) (λ e. ap suc (length_insert x ys))

  pub length_ordered : (xs : List X) → length (ordered before xs) ≡ length xs
  length_ordered [] = refl
  length_ordered (x ∷ xs) = length_insert x (ordered before xs) ∙ ap suc (length_ordered xs)

  chosen_at_most : (ms : List Bool) → chosen ms ≤ length ms
  chosen_at_most [] = omega arith
  chosen_at_most (true ∷ ms) = omega (arith, chosen_at_most ms)
  chosen_at_most (false ∷ ms) = omega (arith, chosen_at_most ms)

  pub tail_bound : (xs : List X) (ms : List Bool) → length ms ≡ length xs → first (chosen ms) (ordered before xs) ≤ℤ sum_at key ms xs
  tail_bound [] [] e = omega (arith, ints)
  tail_bound [] (m ∷ ms) e = absurd (omega arith)
  tail_bound (x ∷ xs) [] e = absurd (omega arith)
  tail_bound (x ∷ xs) (true ∷ ms) e = omega (arith, ints, insert_at_most (chosen ms) x (ordered before xs), tail_bound xs ms (omega arith))
  tail_bound (x ∷ xs) (false ∷ ms) e = go (chosen ms) (chosen_at_most ms) (tail_bound xs ms (omega arith))
    where
      go : (c : ℕ) → c ≤ length ms → first c (ordered before xs) ≤ℤ sum_at key ms xs → first c (insert_by before x (ordered before xs)) ≤ℤ sum_at key ms xs
      go zero l h = h
      go (suc c) l h = omega (arith, ints, insert_lowers c x (ordered before xs) (sorted_ordered xs) (omega (arith, length_ordered xs)))

  pub tail_reached : (k : ℕ) (xs : List X) → k ≤ length xs → (ms : List Bool) × (length ms ≡ length xs) × (chosen ms ≡ k) × (first k (ordered before xs) ≡ sum_at key ms xs)
  tail_reached zero [] h = ([], refl, refl, refl)
  tail_reached (suc k) [] h = absurd (omega arith)
  tail_reached zero (x ∷ xs) h =
      let r : (ms : List Bool) × (length ms ≡ length xs) × (chosen ms ≡ 0) × (pos 0 ≡ sum_at key ms xs) = tail_reached zero xs (omega arith) in
      (false ∷ r.0, ap suc r.1, r.2, r.3)
  tail_reached (suc k) (x ∷ xs) h =
      elim (insert_either k x (ordered before xs)) [
        | inl p ↦
            (let r : (ms : List Bool) × (length ms ≡ length xs) × (chosen ms ≡ k) × (first k (ordered before xs) ≡ sum_at key ms xs) = tail_reached k xs (omega arith) in
            (true ∷ r.0, ap suc r.1, ap suc r.2, p ∙ ap (λ z. key x +ℤ z) r.3))
        | inr p ↦
            (let r : (ms : List Bool) × (length ms ≡ length xs) × (chosen ms ≡ suc k) × (first (suc k) (ordered before xs) ≡ sum_at key ms xs) = tail_reached (suc k) xs (omega (arith, length_ordered xs, p.1)) in
            (false ∷ r.0, ap suc r.1, r.2, p.0 ∙ r.3))
      ]

pub yes_lt : (x y : ℤ) → lt_z x y ≡ true → x ≤ℤ y
yes_lt x y e = omega (arith, ints)

pub no_lt : (x y : ℤ) → lt_z x y ≡ false → y ≤ℤ x
no_lt x y e = omega (arith, ints)

pub tail_bound_holds : TailIsLeast
tail_bound_holds xs ms e = tail_bound lt_z (λ z. z) yes_lt no_lt xs ms e

abbrev pub Reached : ℕ → List ℤ → Type 0
Reached k xs = (ms : List Bool) × (length ms ≡ length xs) × (chosen ms ≡ k) × (tail_sum k xs ≡ sum_at (λ z. z) ms xs)

pub reached : (k : ℕ) (xs : List ℤ) → k ≤ length xs → Reached k xs
reached k xs h = tail_reached lt_z (λ z. z) yes_lt no_lt k xs h

-- the bound at a choice of k places
pub bound_at : (k : ℕ) (xs : List ℤ) (ms : List Bool) → length ms ≡ length xs → chosen ms ≡ k → tail_sum k xs ≤ℤ sum_at (λ z. z) ms xs
bound_at k xs ms e c = rw c at (tail_bound_holds xs ms e)

pub sum_at_added : (ms : List Bool) (xs ys : List ℤ) → length xs ≡ length ys → sum_at (λ z. z) ms (added xs ys) ≡ sum_at (λ z. z) ms xs +ℤ sum_at (λ z. z) ms ys
sum_at_added [] xs ys e = refl
sum_at_added (m ∷ ms) [] [] e = refl
sum_at_added (m ∷ ms) [] (y ∷ ys) e = absurd (omega arith)
sum_at_added (m ∷ ms) (x ∷ xs) [] e = absurd (omega arith)
sum_at_added (true ∷ ms) (x ∷ xs) (y ∷ ys) e = omega (arith, ints, sum_at_added ms xs ys (omega arith))
sum_at_added (false ∷ ms) (x ∷ xs) (y ∷ ys) e = sum_at_added ms xs ys (omega arith)

pub length_added : (xs ys : List ℤ) → length xs ≡ length ys → length (added xs ys) ≡ length xs
length_added [] ys e = refl
length_added (x ∷ xs) [] e = absurd (omega arith)
length_added (x ∷ xs) (y ∷ ys) e = ap suc (length_added xs ys (omega arith))

pub tail_adds_holds : TailAdds
tail_adds_holds k xs ys e h =
    let l : length (added xs ys) ≡ length xs = length_added xs ys e in
    let r : Reached k (added xs ys) = reached k (added xs ys) (omega arith) in
    omega (arith, ints, r.3, sum_at_added r.0 xs ys e, bound_at k xs r.0 (r.1 ∙ l) r.2, bound_at k ys r.0 (r.1 ∙ l ∙ e) r.2)

pub near_lengths : (d : ℕ) (xs ys : List ℤ) → AllNear d xs ys → length xs ≡ length ys
near_lengths d [] [] n = refl
near_lengths d [] (y ∷ ys) n = absurd n
near_lengths d (x ∷ xs) [] n = absurd n
near_lengths d (x ∷ xs) (y ∷ ys) n = ap suc (near_lengths d xs ys n.1)

pub sum_at_near : (d : ℕ) (ms : List Bool) (xs ys : List ℤ) → AllNear d xs ys → Near (chosen ms * d) (sum_at (λ z. z) ms xs) (sum_at (λ z. z) ms ys)
sum_at_near d [] xs ys n = record { low = omega (arith, ints); high = omega (arith, ints) }
sum_at_near d (true ∷ ms) [] [] n = record { low = omega (arith, ints); high = omega (arith, ints) }
sum_at_near d (false ∷ ms) [] [] n = record { low = omega (arith, ints); high = omega (arith, ints) }
sum_at_near d (m ∷ ms) [] (y ∷ ys) n = absurd n
sum_at_near d (m ∷ ms) (x ∷ xs) [] n = absurd n
sum_at_near d (true ∷ ms) (x ∷ xs) (y ∷ ys) n = let h = sum_at_near d ms xs ys n.1 in let e : suc (chosen ms) * d ≡ d + chosen ms * d = suc-mul (chosen ms) d ∙ add_comm _ _ in record { low = omega (arith, ints, n.0.low, h.low); high = omega (arith, ints, n.0.high, h.high) }
sum_at_near d (false ∷ ms) (x ∷ xs) (y ∷ ys) n = sum_at_near d ms xs ys n.1

pub tail_near_holds : TailStaysNear
tail_near_holds k d xs ys n h =
    let l : length xs ≡ length ys = near_lengths d xs ys n in
    let r : Reached k xs = reached k xs h in
    let t : Reached k ys = reached k ys (omega arith) in
    let p : Near (k * d) (sum_at (λ z. z) r.0 xs) (sum_at (λ z. z) r.0 ys) = rw r.2 at (sum_at_near d r.0 xs ys n) in
    let q : Near (k * d) (sum_at (λ z. z) t.0 xs) (sum_at (λ z. z) t.0 ys) = rw t.2 at (sum_at_near d t.0 xs ys n) in
    record {
      low = omega (arith, ints, t.3, q.low, bound_at k xs t.0 (t.1 ∙ sym l) t.2);
      high = omega (arith, ints, r.3, p.high, bound_at k ys r.0 (r.1 ∙ l) r.2);
    }

-- a choice of elements is a choice of their figures
pub sum_at_map : {X : Type 0} (f : X → ℤ) (ms : List Bool) (xs : List X) → sum_at f ms xs ≡ sum_at (λ z. z) ms (map f xs)
sum_at_map f [] xs = refl
sum_at_map f (true ∷ ms) [] = refl
sum_at_map f (false ∷ ms) [] = refl
sum_at_map f (true ∷ ms) (x ∷ xs) = ap (λ z. f x +ℤ z) (sum_at_map f ms xs)
sum_at_map f (false ∷ ms) (x ∷ xs) = sum_at_map f ms xs
