-- The different elements of a list, each once.
use Rattle.std.proofs.Common.{◌≡◌, ℕ, Bool, true, false, cond, ◌||◌, eqb, ◌⊎◌, List, [], ◌∷◌, sym, refl, subst, inl, inr, arith, eqb-true}
use borrow.Author.Tests.{eqb-false}
use Rattle.amounts.specs.Sets.{In, Apart}
use Rattle.amounts.specs.Firsts.{member, fresh}

pub member_in : (x : ℕ) (ys : List ℕ) → member x ys ≡ true → In x ys
member_in x [] e = let z : ◌≡◌ {A = ℕ} 0 1 = cc in absurd (omega arith)
member_in x (y ∷ ys) e = go (eqb x y) refl (λ f. member_in x ys f) e
  where
    go : (t : Bool) → eqb x y ≡ t → (member x ys ≡ true → In x ys) → (t || member x ys) ≡ true → (x ≡ y) ⊎ In x ys
    go true f k g = inl (eqb-true x y f)
    go false f k g = inr (k g)

pub member_not : (x : ℕ) (ys : List ℕ) → member x ys ≡ false → In x ys → ⊥
member_not x [] e i = i
member_not x (y ∷ ys) e i = go (eqb x y) refl (λ f. member_not x ys f) e i
  where
    go : (t : Bool) → eqb x y ≡ t → (member x ys ≡ false → In x ys → ⊥) → (t || member x ys) ≡ false → (x ≡ y) ⊎ In x ys → ⊥
    go true f k g i = let z : ◌≡◌ {A = ℕ} 0 1 = cc in omega arith
    go false f k g (inl q) = eqb-false x y f q
    go false f k g (inr j) = k g j

-- none of them was seen, and each is of the list
pub fresh_only : (seen xs : List ℕ) (z : ℕ) → In z (fresh seen xs) → In z xs × (In z seen → ⊥)
fresh_only seen [] z i = absurd i
fresh_only seen (x ∷ xs) z i = go (member x seen) refl (fresh_only seen xs z) (fresh_only (x ∷ seen) xs z) i
  where
    go : (t : Bool) → member x seen ≡ t → (In z (fresh seen xs) → In z xs × (In z seen → ⊥)) → (In z (fresh (x ∷ seen) xs) → In z xs × (In z (x ∷ seen) → ⊥)) → In z (cond t (fresh seen xs) (x ∷ fresh (x ∷ seen) xs)) → In z (x ∷ xs) × (In z seen → ⊥)
    go true e f g i = (inr (f i).0, (f i).1)
    go false e f g (inl q) = (inl q, λ j. member_not x seen e (subst (λ w. In w seen) q j))
    go false e f g (inr i) = (inr (g i).0, λ j. (g i).1 (inr j))

pub fresh_apart : (seen xs : List ℕ) → Apart (fresh seen xs)
fresh_apart seen [] = tt
fresh_apart seen (x ∷ xs) = go (member x seen) (fresh_apart seen xs) (fresh_apart (x ∷ seen) xs)
  where
    go : (t : Bool) → Apart (fresh seen xs) → Apart (fresh (x ∷ seen) xs) → Apart (cond t (fresh seen xs) (x ∷ fresh (x ∷ seen) xs))
    go true p q = p
    go false p q = (λ i. (fresh_only (x ∷ seen) xs x i).1 (inl refl), q)

pub fresh_all : (seen xs : List ℕ) (z : ℕ) → In z xs → In z seen ⊎ In z (fresh seen xs)
fresh_all seen [] z i = absurd i
fresh_all seen (x ∷ xs) z i = go (member x seen) refl (fresh_all seen xs z) (fresh_all (x ∷ seen) xs z) i
  where
    go : (t : Bool) → member x seen ≡ t → (In z xs → In z seen ⊎ In z (fresh seen xs)) → (In z xs → In z (x ∷ seen) ⊎ In z (fresh (x ∷ seen) xs)) → In z (x ∷ xs) → In z seen ⊎ In z (cond t (fresh seen xs) (x ∷ fresh (x ∷ seen) xs))
    go true e f g (inl q) = inl (subst (λ w. In w seen) (sym q) (member_in x seen e))
    go true e f g (inr i) = f i
    go false e f g (inl q) = inr (inl q)
    go false e f g (inr i) = elim (g i) [ inl k ↦ elim k [ inl q ↦ inr (inl q) | inr j ↦ inl j ] | inr k ↦ inr (inr k) ]
