-- The keeper holds the first k in order, whatever the order in which they came.
use Rattle.std.proofs.Common.{◌≡◌, ℕ, zero, suc, Bool, true, false, cond, List, [], ◌∷◌, map, length, take, ℤ, ◌≤ℤ◌, fold as folded, sym, refl, ap, ◌∙◌, arith}
use Rattle.std.proofs.lemmas.List.{take-take, length-map}
use Rattle.std.proofs.lemmas.Int.{ints}
use Rattle.amounts.specs.Sums.{sum_of}
use Rattle.amounts.specs.Tails.{insert_by, ordered, chosen, sum_at}
use Rattle.amounts.specs.Sets.{fold_right}
use Rattle.amounts.specs.FirstFew.{keep, Strict, GoesBy, KeptAreFirst, KeptAlike, KeptSumIsTail}
use Rattle.amounts.proofs.Whole.{≤-antisym}
use Rattle.amounts.proofs.Sets.{same_fold}
use Rattle.amounts.proofs.Tail.{Reached, reached, bound_at, tail_bound, tail_reached, sum_at_map}

take_cons : {X : Type 0} (j : ℕ) (y : X) (ys : List X) → take j (y ∷ take j ys) ≡ take j (y ∷ ys)
take_cons zero y ys = refl
take_cons (suc i) y ys = ap (λ l. y ∷ l) (take-take i (suc i) ys (omega arith))

module _ {X : Type 0} (before : X → X → Bool) where
  pub take_insert : (k : ℕ) (x : X) (s : List X) → take k (insert_by before x (take k s)) ≡ take k (insert_by before x s)
  take_insert zero x s = refl
  take_insert (suc j) x [] = refl
  take_insert (suc j) x (y ∷ ys) = go (before x y) (take_insert j x ys)
    where
      go : (t : Bool) → take j (insert_by before x (take j ys)) ≡ take j (insert_by before x ys) → take (suc j) (cond t (x ∷ y ∷ take j ys) (y ∷ insert_by before x (take j ys))) ≡ take (suc j) (cond t (x ∷ y ∷ ys) (y ∷ insert_by before x ys))
      go true h = ap (λ l. x ∷ l) (take_cons j y ys)
      go false h = ap (λ l. y ∷ l) h

  pub kept_from : (k : ℕ) (s xs : List X) → folded (keep before k) (take k s) xs ≡ take k (folded (λ l x. insert_by before x l) s xs)
  kept_from k s [] = refl
  kept_from k s (x ∷ xs) = ap (λ l. folded (keep before k) l xs) (take_insert k x s) ∙ kept_from k (insert_by before x s) xs

module _ {X : Type 0} (before : X → X → Bool) (o : Strict before) where
  -- two in front of the same rest
  pair : (x y : X) (s : List X) → cond (before x y) (x ∷ y ∷ s) (y ∷ x ∷ s) ≡ cond (before y x) (y ∷ x ∷ s) (x ∷ y ∷ s)
  pair x y s = go (before x y) refl (before y x) refl
    where
      go : (a : Bool) → before x y ≡ a → (b : Bool) → before y x ≡ b → cond a (x ∷ y ∷ s) (y ∷ x ∷ s) ≡ cond b (y ∷ x ∷ s) (x ∷ y ∷ s)
      go true e true f = cc (o.asym x y e)
      go true e false f = refl
      go false e true f = refl
      go false e false f = let q = o.one x y e f in cc

  not_before : (x y z : X) → before x z ≡ true → before y z ≡ false → before y x ≡ false
  not_before x y z e f = go (before y x) refl
    where
      go : (t : Bool) → before y x ≡ t → t ≡ false
      go true g = sym (o.trans y x z g e) ∙ f
      go false g = refl

  pub insert_swap : (x y : X) (s : List X) → insert_by before x (insert_by before y s) ≡ insert_by before y (insert_by before x s)
  insert_swap x y [] = pair x y []
  insert_swap x y (z ∷ s) = go (before x z) refl (before y z) refl (insert_swap x y s)
    where
      go : (a : Bool) → before x z ≡ a → (b : Bool) → before y z ≡ b → insert_by before x (insert_by before y s) ≡ insert_by before y (insert_by before x s) → insert_by before x (cond b (y ∷ z ∷ s) (z ∷ insert_by before y s)) ≡ insert_by before y (cond a (x ∷ z ∷ s) (z ∷ insert_by before x s))
      go true e true f h = simp (e, f) (pair x y (z ∷ s))
      go true e false f h = let g = not_before x y z e f in simp (e, f, g)
      go false e true f h = let g = not_before y x z f e in simp (e, f, g)
      go false e false f h = simp (e, f) (ap (λ l. z ∷ l) h)

  folded_insert : (x : X) (s xs : List X) → folded (λ l y. insert_by before y l) (insert_by before x s) xs ≡ insert_by before x (folded (λ l y. insert_by before y l) s xs)
  folded_insert x s [] = refl
  folded_insert x s (y ∷ xs) = ap (λ l. folded (λ l y. insert_by before y l) l xs) (insert_swap y x s) ∙ folded_insert x (insert_by before y s) xs

  pub folded_ordered : (xs : List X) → folded (λ l y. insert_by before y l) [] xs ≡ ordered before xs
  folded_ordered [] = refl
  folded_ordered (x ∷ xs) = folded_insert x [] xs ∙ ap (insert_by before x) (folded_ordered xs)

  -- what the keeper holds after xs
  pub kept_is : KeptAreFirst before
  kept_is k xs = ap (λ l. folded (keep before k) l xs) (sym (none k)) ∙ kept_from before k [] xs ∙ ap (take k) (folded_ordered xs)
    where
      none : (k : ℕ) → take {A = X} k [] ≡ []
      none zero = refl
      none (suc k) = refl

  pub ordered_fold : (xs : List X) → ordered before xs ≡ fold_right (insert_by before) [] xs
  ordered_fold [] = refl
  ordered_fold (x ∷ xs) = ap (insert_by before x) (ordered_fold xs)

  -- the same elements, in any order, are kept alike
  pub kept_same : KeptAlike before
  kept_same k xs ys p q to from =
      kept_is k xs ∙ ap (take k) (ordered_fold xs ∙ same_fold (insert_by before) insert_swap [] xs ys p q to from ∙ sym (ordered_fold ys)) ∙ sym (kept_is k ys)

-- the amounts of what is kept add up to the tail
pub kept_sum : {X : Type 0} (before : X → X → Bool) (amount : X → ℤ) → Strict before → GoesBy before amount → KeptSumIsTail before amount
kept_sum before amount o g k xs l =
    let a : (ms : List Bool) × (length ms ≡ length xs) × (chosen ms ≡ k) × (sum_of amount (take k (ordered before xs)) ≡ sum_at amount ms xs) = tail_reached before amount g.yes g.no k xs l in
    let n = length-map xs amount in
    let b : Reached k (map amount xs) = reached k (map amount xs) (omega arith) in
    let c : sum_of amount (take k (ordered before xs)) ≤ℤ sum_at amount b.0 xs = rw b.2 at (tail_bound before amount g.yes g.no xs b.0 (b.1 ∙ n)) in
    ap (sum_of amount) (kept_is before o k xs) ∙
    ≤-antisym _ _ (omega (arith, ints, b.3, sum_at_map amount b.0 xs)) (omega (arith, ints, a.3, sum_at_map amount a.0 xs, bound_at k (map amount xs) a.0 (a.1 ∙ sym n) a.2))
