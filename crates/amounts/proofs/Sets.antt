-- Two lists of different elements with the same members have the same folds.
use Rattle.std.proofs.Common.{◌≡◌, ℕ, suc, ◌≤◌, Bool, true, false, cond, eqb, ◌⊎◌, List, [], ◌∷◌, map, length, ℤ, pos, ◌+ℤ◌, sym, refl, ap, ◌∙◌, subst, inl, inr, arith, eqb-true}
use borrow.Author.Tests.{eqb-false}
use Rattle.std.proofs.lemmas.Int.{ints}
use Rattle.amounts.specs.Sums.{sum_of}
use Rattle.amounts.specs.Sets.{In, Apart, fold_right, Within}

module _ {X : Type 0} (x : X) where
  -- the list without one occurrence of x
  abbrev pub out : (ys : List X) → In x ys → List X
  out [] m = absurd m
  out (y ∷ ys) (inl e) = ys
  out (y ∷ ys) (inr m) = y ∷ out ys m

  pub in_out : (ys : List X) (m : In x ys) (z : X) → In z ys → (z ≡ x) ⊎ In z (out ys m)
  in_out [] m z i = absurd m
  in_out (y ∷ ys) (inl e) z (inl d) = inl (d ∙ sym e)
  in_out (y ∷ ys) (inl e) z (inr i) = inr i
  in_out (y ∷ ys) (inr m) z (inl d) = inr (inl d)
  in_out (y ∷ ys) (inr m) z (inr i) = elim (in_out ys m z i) [ inl e ↦ inl e | inr k ↦ inr (inr k) ]

  pub out_in : (ys : List X) (m : In x ys) (z : X) → In z (out ys m) → In z ys
  out_in [] m z i = absurd m
  out_in (y ∷ ys) (inl e) z i = inr i
  out_in (y ∷ ys) (inr m) z (inl d) = inl d
  out_in (y ∷ ys) (inr m) z (inr i) = inr (out_in ys m z i)

  pub out_not : (ys : List X) (m : In x ys) → Apart ys → In x (out ys m) → ⊥
  out_not [] m a i = m
  out_not (y ∷ ys) (inl e) a i = a.0 (subst (λ w. In w ys) e i)
  out_not (y ∷ ys) (inr m) a (inl d) = a.0 (subst (λ w. In w ys) d m)
  out_not (y ∷ ys) (inr m) a (inr i) = out_not ys m a.1 i

  pub out_apart : (ys : List X) (m : In x ys) → Apart ys → Apart (out ys m)
  out_apart [] m a = absurd m
  out_apart (y ∷ ys) (inl e) a = a.1
  out_apart (y ∷ ys) (inr m) a = (λ i. a.0 (out_in ys m y i), out_apart ys m a.1)

  pub length_out : (ys : List X) (m : In x ys) → length ys ≡ suc (length (out ys m))
  length_out [] m = absurd m
  length_out (y ∷ ys) (inl e) = refl
  length_out (y ∷ ys) (inr m) = ap suc (length_out ys m)

  pub fold_out : {B : Type 0} (step : X → B → B) → ((u v : X) (c : B) → step u (step v c) ≡ step v (step u c)) → (b : B) (ys : List X) (m : In x ys) → fold_right step b ys ≡ step x (fold_right step b (out ys m))
  fold_out step swap b [] m = absurd m
  fold_out step swap b (y ∷ ys) (inl e) = ap (λ w. step w (fold_right step b ys)) (sym e)
  fold_out step swap b (y ∷ ys) (inr m) = ap (step y) (fold_out step swap b ys m) ∙ swap y x (fold_right step b (out ys m))

pub same_fold : {X B : Type 0} (step : X → B → B) → ((u v : X) (c : B) → step u (step v c) ≡ step v (step u c)) → (b : B) (xs ys : List X) → Apart xs → Apart ys → Within xs ys → Within ys xs → fold_right step b xs ≡ fold_right step b ys
same_fold step swap b [] [] p q to from = refl
same_fold step swap b [] (y ∷ ys) p q to from = absurd (from y (inl refl))
same_fold {X} step swap b (x ∷ xs) ys p q to from =
    ap (step x) (same_fold step swap b xs (out x ys m) p.1 (out_apart x ys m q) to' from') ∙ sym (fold_out x step swap b ys m)
  where
    m : In x ys
    m = to x (inl refl)

    to' : Within xs (out x ys m)
    to' z i = elim (in_out x ys m z (to z (inr i))) [ inl e ↦ absurd (p.0 (subst (λ w. In w xs) e i)) | inr k ↦ k ]

    from' : Within (out x ys m) xs
    from' z i = elim (from z (out_in x ys m z i)) [ inl e ↦ absurd (out_not x ys m q (subst (λ w. In w (out x ys m)) e i)) | inr k ↦ k ]

-- different elements of ys are at most as many as ys has
pub fewer : {X : Type 0} (xs ys : List X) → Apart xs → Within xs ys → length xs ≤ length ys
fewer [] ys p to = omega arith
fewer (x ∷ xs) ys p to = omega (arith, length_out x ys m, fewer xs (out x ys m) p.1 to')
  where
    m : In x ys
    m = to x (inl refl)

    to' : Within xs (out x ys m)
    to' z i = elim (in_out x ys m z (to z (inr i))) [ inl e ↦ absurd (p.0 (subst (λ w. In w xs) e i)) | inr k ↦ k ]

pub sum_fold : {X : Type 0} (f : X → ℤ) (xs : List X) → sum_of f xs ≡ fold_right (λ x s. f x +ℤ s) (pos 0) xs
sum_fold f [] = refl
sum_fold f (x ∷ xs) = ap (λ s. f x +ℤ s) (sum_fold f xs)

pub same_sum : {X : Type 0} (f : X → ℤ) (xs ys : List X) → Apart xs → Apart ys → Within xs ys → Within ys xs → sum_of f xs ≡ sum_of f ys
same_sum f xs ys p q to from =
    sum_fold f xs ∙ same_fold (λ x s. f x +ℤ s) (λ u v c. omega (arith, ints)) (pos 0) xs ys p q to from ∙ sym (sum_fold f ys)

-- what holds for both values of a test
pub by_eqb : {X : Type 0} (P : X → Type 0) (m n : ℕ) (a b : X) → (m ≡ n → P a) → ((m ≡ n → ⊥) → P b) → P (cond (eqb m n) a b)
by_eqb P m n a b f g = go (eqb m n) refl
  where
    go : (t : Bool) → eqb m n ≡ t → P (cond t a b)
    go true e = f (eqb-true m n e)
    go false e = g (eqb-false m n e)

-- membership through a map
pub in_map : {X Y : Type 0} (f : X → Y) (x : X) (xs : List X) → In x xs → In (f x) (map f xs)
in_map f x [] i = i
in_map f x (y ∷ ys) (inl e) = inl (ap f e)
in_map f x (y ∷ ys) (inr i) = inr (in_map f x ys i)

pub un_map : {X Y : Type 0} (f : X → Y) (n : Y) (xs : List X) → In n (map f xs) → (x : X) × In x xs × (n ≡ f x)
un_map f n [] i = absurd i
un_map f n (x ∷ xs) (inl e) = (x, inl refl, e)
un_map f n (x ∷ xs) (inr i) = let r : (x : _) × In x xs × (n ≡ f x) = un_map f n xs i in (r.0, inr r.1, r.2)

pub apart_map : {X Y : Type 0} (f : X → Y) (xs : List X) → Apart (map f xs) → Apart xs
apart_map f [] a = tt
apart_map f (x ∷ xs) a = (λ i. a.0 (in_map f x xs i), apart_map f xs a.1)

pub either_in : (n : ℕ) (ns : List ℕ) → In n ns ⊎ (In n ns → ⊥)
either_in n [] = inr (λ i. i)
either_in n (m ∷ ns) = go (eqb n m) refl (either_in n ns)
  where
    go : (t : Bool) → eqb n m ≡ t → In n ns ⊎ (In n ns → ⊥) → ((n ≡ m) ⊎ In n ns) ⊎ (((n ≡ m) ⊎ In n ns) → ⊥)
    go true e r = inl (inl (eqb-true n m e))
    go false e (inl i) = inl (inr i)
    go false e (inr f) = inr (elim [ inl q ↦ eqb-false n m e q | inr i ↦ f i ])
