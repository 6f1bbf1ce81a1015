-- Members of a list, and of what a function makes of each.
use Rattle.std.proofs.Common.{◌≡◌, ℕ, Bool, true, false, cond, eqb, ◌⊎◌, List, [], ◌∷◌, map, sym, refl, ap, ◌∙◌, subst, inl, inr, eqb-true}
use borrow.Author.Tests.{eqb-false}
use Rattle.amounts.specs.Sets.{In, Apart, Within}

-- what holds for both values of a test
pub by_eqb : {X : Type 0} (P : X → Type 0) (m n : ℕ) (a b : X) → (m ≡ n → P a) → ((m ≡ n → ⊥) → P b) → P (cond (eqb m n) a b)
by_eqb P m n a b f g = go (eqb m n) refl
  where
    go : (t : Bool) → eqb m n ≡ t → P (cond t a b)
    go true e = f (eqb-true m n e)
    go false e = g (eqb-false m n e)

pub in_map : {X : Type 0} (f : X → ℕ) (x : X) (xs : List X) → In x xs → In (f x) (map f xs)
in_map f x [] i = i
in_map f x (y ∷ ys) (inl e) = inl (ap f e)
in_map f x (y ∷ ys) (inr i) = inr (in_map f x ys i)

pub un_map : {X : Type 0} (f : X → ℕ) (n : ℕ) (xs : List X) → In n (map f xs) → (x : X) × In x xs × (n ≡ f x)
un_map f n [] i = absurd i
un_map f n (x ∷ xs) (inl e) = (x, inl refl, e)
un_map f n (x ∷ xs) (inr i) = let r : (x : _) × In x xs × (n ≡ f x) = un_map f n xs i in (r.0, inr r.1, r.2)

pub apart_map : {X : Type 0} (f : X → ℕ) (xs : List X) → Apart (map f xs) → Apart xs
apart_map f [] a = tt
apart_map f (x ∷ xs) a = (λ i. a.0 (in_map f x xs i), apart_map f xs a.1)

pub within_map : {X : Type 0} (f : X → ℕ) (xs ys : List X) → Within xs ys → Within (map f xs) (map f ys)
within_map f xs ys w n i =
    let r = un_map f n xs i in
    subst (λ j. In j (map f ys)) (sym r.2) (in_map f r.0 ys (w r.0 r.1))

pub either_in : (n : ℕ) (ns : List ℕ) → In n ns ⊎ (In n ns → ⊥)
either_in n [] = inr (λ i. i)
either_in n (m ∷ ns) = go (eqb n m) refl (either_in n ns)
  where
    go : (t : Bool) → eqb n m ≡ t → In n ns ⊎ (In n ns → ⊥) → ((n ≡ m) ⊎ In n ns) ⊎ (((n ≡ m) ⊎ In n ns) → ⊥)
    go true e r = inl (inl (eqb-true n m e))
    go false e (inl i) = inl (inr i)
    go false e (inr f) = inr (elim [ inl q ↦ eqb-false n m e q | inr i ↦ f i ])

-- where the numbers differ, two members of one number are one
pub one_of_number : {X : Type 0} (f : X → ℕ) (xs : List X) (x y : X) → Apart (map f xs) → In x xs → In y xs → f x ≡ f y → x ≡ y
one_of_number f [] x y a i j q = absurd i
one_of_number f (z ∷ xs) x y a (inl d) (inl e) q = d ∙ sym e
one_of_number f (z ∷ xs) x y a (inl d) (inr j) q = absurd (a.0 (subst (λ w. In w (map f xs)) (sym q ∙ ap f d) (in_map f y xs j)))
one_of_number f (z ∷ xs) x y a (inr i) (inl e) q = absurd (a.0 (subst (λ w. In w (map f xs)) (q ∙ ap f e) (in_map f x xs i)))
one_of_number f (z ∷ xs) x y a (inr i) (inr j) q = one_of_number f xs x y a.1 i j q
