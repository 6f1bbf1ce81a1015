-- A sum over all stocks is the sum over those that count.
use Rattle.std.proofs.Common.{◌≡◌, ℕ, zero, suc, ◌+◌, ◌<◌, ◌≤◌, Bool, true, false, eqb, ◌⊎◌, List, [], ◌∷◌, ℤ, pos, ◌+ℤ◌, sym, refl, ap, ◌∙◌, subst, inl, inr, arith, eqb-true}
use borrow.Author.Tests.{eqb-false}
use Rattle.std.specs.List.{range_with_len}
use Rattle.std.proofs.lemmas.Int.{ints}
use Rattle.amounts.specs.Sums.{sum_of}
use Rattle.amounts.specs.Sets.{In, Apart, Within}
use Rattle.amounts.proofs.Sets.{out, in_out, out_in, out_not, out_apart, fold_out, sum_fold}

pub sum_zero : {X : Type 0} (f : X → ℤ) (us : List X) → ((u : X) → In u us → f u ≡ pos 0) → sum_of f us ≡ pos 0
sum_zero f [] z = refl
sum_zero f (u ∷ us) z = omega (arith, ints, z u (inl refl), sum_zero f us (λ v i. z v (inr i)))

pub sum_out : {X : Type 0} (f : X → ℤ) (x : X) (us : List X) (m : In x us) → sum_of f us ≡ f x +ℤ sum_of f (out x us m)
sum_out f x us m = sum_fold f us ∙ fold_out x (λ y s. f y +ℤ s) (λ u v c. omega (arith, ints)) (pos 0) us m ∙ ap (λ z. f x +ℤ z) (sym (sum_fold f (out x us m)))

pub sum_support : {X : Type 0} (f : X → ℤ) (ks us : List X) → Apart ks → Apart us → Within ks us → ((u : X) → In u us → (In u ks → ⊥) → f u ≡ pos 0) → sum_of f ks ≡ sum_of f us
sum_support f [] us p q to z = sym (sum_zero f us (λ u i. z u i (λ k. k)))
sum_support f (k ∷ ks) us p q to z = ap (λ w. f k +ℤ w) (sum_support f ks (out k us m) p.1 (out_apart k us m q) to' z') ∙ sym (sum_out f k us m)
  where
    m : In k us
    m = to k (inl refl)

    to' : Within ks (out k us m)
    to' u i = elim (in_out k us m u (to u (inr i))) [ inl e ↦ absurd (p.0 (subst (λ w. In w ks) e i)) | inr j ↦ j ]

    z' : (u : _) → In u (out k us m) → (In u ks → ⊥) → f u ≡ pos 0
    z' u i n = z u (out_in k us m u i) (elim [ inl e ↦ out_not k us m q (subst (λ w. In w (out k us m)) e i) | inr j ↦ n j ])

pub above : (a n x : ℕ) → In x (range_with_len a n) → a ≤ x
above a zero x i = absurd i
above a (suc n) x (inl e) = omega arith
above a (suc n) x (inr i) = omega (arith, above (a + 1) n x i)

pub apart_counting : (a n : ℕ) → Apart (range_with_len a n)
apart_counting a zero = tt
apart_counting a (suc n) = (λ i. omega (arith, above (a + 1) n a i), apart_counting (a + 1) n)

pub in_counting : (a n x : ℕ) → a ≤ x → x < a + n → In x (range_with_len a n)
in_counting a zero x h k = absurd (omega arith)
in_counting a (suc n) x h k = go (eqb x a) refl (λ d. in_counting (a + 1) n x (omega arith) (omega arith))
  where
    go : (t : Bool) → eqb x a ≡ t → ((x ≡ a → ⊥) → In x (range_with_len (a + 1) n)) → (x ≡ a) ⊎ In x (range_with_len (a + 1) n)
    go true e f = inl (eqb-true x a e)
    go false e f = inr (f (eqb-false x a e))
