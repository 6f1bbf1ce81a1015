-- One element more among the first few, for whoever offers them in a loop.
use Rattle.std.proofs.Common.{◌≡◌, ℕ, suc, ◌+◌, ◌<◌, ◌≤◌, min, Bool, true, false, cond, List, [], ◌∷◌, ◌++◌, length, get_or, take, fold, sym, refl, ap, ◌∙◌, arith}
use Rattle.std.specs.List.{count_by, AllByRecursion as All}
use Rattle.std.proofs.ByRecursion.{All-take}
use Rattle.std.proofs.lemmas.List.{take_more, take_all, length-take}
use Rattle.std.proofs.lemmas.List.Sums.{fold-append, sum_by-cons}
use Rattle.amounts.specs.Tails.{insert_by, ordered}
use Rattle.amounts.specs.FirstFew.{keep, kept, Strict}
use Rattle.amounts.proofs.Keep.{kept_is}
use Rattle.first_few.specs.Order.{InOrder}
use Rattle.first_few.specs.First.{AreFirst, KeepsTheFirst}
use Rattle.first_few.proofs.Inserts.{ranks, in_order_insertion}

module _ {X : Type 0} (before : X → X → Bool) where
  -- one more at the end
  pub kept_append : (n : ℕ) (xs : List X) (x : X) → kept before n (xs ++ x ∷ []) ≡ keep before n (kept before n xs) x
  kept_append n xs x = fold-append (keep before n) [] xs (x ∷ [])

  -- one more of a list that is offered place by place
  pub kept_more : (n : ℕ) (xs : List X) (i : ℕ) (d : X) → i < length xs → kept before n (take (i + 1) xs) ≡ keep before n (kept before n (take i xs)) (get_or xs i d)
  kept_more n xs i d h = ap (kept before n) (take_more xs i d h) ∙ kept_append n (take i xs) (get_or xs i d)

  pub kept_all : (n : ℕ) (xs : List X) (i : ℕ) → length xs ≤ i → kept before n (take i xs) ≡ kept before n xs
  kept_all n xs i h = ap (kept before n) (take_all i xs h)

  length_insert_by : (x : X) (ys : List X) → length (insert_by before x ys) ≡ suc (length ys)
  length_insert_by x [] = refl
  length_insert_by x (y ∷ ys) = go (before x y) (length_insert_by x ys)
    where
      go : (b : Bool) → length (insert_by before x ys) ≡ suc (length ys) → length (cond b (x ∷ y ∷ ys) (y ∷ insert_by before x ys)) ≡ suc (suc (length ys))
      go true h = refl
      go false h = ap suc h

  length_folded : (n : ℕ) (s xs : List X) → length s ≤ n → length (fold (keep before n) s xs) ≡ min (length s + length xs) n
  length_folded n s [] h = omega arith
  length_folded n s (x ∷ xs) h =
      let one = length_insert_by x s in
      let less = length-take n (insert_by before x s) in
      omega (arith, length_folded n (keep before n s x) xs (omega arith))

  -- as many as there are, or as there are places
  pub length_kept : (n : ℕ) (xs : List X) → length (kept before n xs) ≡ min (length xs) n
  length_kept n xs = omega (arith, length_folded n [] xs (omega arith))

  all_insert_by : (P : X → Type 0) (x : X) (ys : List X) → P x → All P ys → All P (insert_by before x ys)
  all_insert_by P x [] p a = (p, tt)
  all_insert_by P x (y ∷ ys) p a = go (before x y) (all_insert_by P x ys p a.1)
    where
      go : (b : Bool) → All P (insert_by before x ys) → All P (cond b (x ∷ y ∷ ys) (y ∷ insert_by before x ys))
      go true q = (p, (a.0, a.1))
      go false q = (a.0, q)

  all_folded : (P : X → Type 0) (n : ℕ) (s xs : List X) → All P s → All P xs → All P (fold (keep before n) s xs)
  all_folded P n s [] a b = a
  all_folded P n s (x ∷ xs) a b = all_folded P n (keep before n s x) xs (All-take P n (insert_by before x s) (all_insert_by P x s b.0 a)) b.1

  -- what is true of all is true of those that are kept
  pub all_kept : (P : X → Type 0) (n : ℕ) (xs : List X) → All P xs → All P (kept before n xs)
  all_kept P n xs a = all_folded P n [] xs tt a

  count_cons : (is : X → Bool) (x : X) (xs : List X) → count_by is (x ∷ xs) ≡ cond (is x) 1 0 + count_by is xs
  count_cons is x xs = sum_by-cons (λ y. cond (is y) 1 0) x xs

  count_insert_by : (is : X → Bool) (x : X) (ys : List X) → count_by is (insert_by before x ys) ≡ count_by is (x ∷ ys)
  count_insert_by is x [] = refl
  count_insert_by is x (y ∷ ys) = go (before x y) (count_insert_by is x ys)
    where
      go : (b : Bool) → count_by is (insert_by before x ys) ≡ count_by is (x ∷ ys) → count_by is (cond b (x ∷ y ∷ ys) (y ∷ insert_by before x ys)) ≡ count_by is (x ∷ y ∷ ys)
      go true h = refl
      go false h = omega (arith, h, count_cons is y (insert_by before x ys), count_cons is x ys, count_cons is x (y ∷ ys), count_cons is y ys)

  count_ordered : (xs : List X) (is : X → Bool) → count_by is (ordered before xs) ≡ count_by is xs
  count_ordered [] is = refl
  count_ordered (x ∷ xs) is = omega (arith, count_insert_by is x (ordered before xs), count_cons is x (ordered before xs), count_cons is x xs, count_ordered xs is)

module _ {X : Type 0} (before : X → X → Bool) (o : Strict before) where
  in_order_ordered : (xs : List X) → InOrder before (ordered before xs)
  in_order_ordered [] = tt
  in_order_ordered (x ∷ xs) = in_order_insertion (ranks o) x (ordered before xs) (in_order_ordered xs)

  pub keeps_the_first : KeepsTheFirst before
  keeps_the_first = record { first = kept_is before o; in_order = in_order_ordered; as_often = count_ordered before }

  -- one more upon the first of xs
  pub first_more : (n : ℕ) (xs ys : List X) (x : X) → AreFirst before n xs ys → AreFirst before n (xs ++ x ∷ []) (keep before n ys x)
  first_more n xs ys x e = ap (λ l. keep before n l x) (e ∙ sym (kept_is before o n xs)) ∙ sym (kept_append before n xs x) ∙ kept_is before o n (xs ++ x ∷ [])
