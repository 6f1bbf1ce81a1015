-- The place of a number is the first one that is kept for it.
use borrow.Author.Tests.{eqb-false}
use Rattle.std.proofs.Common.{◌≡◌, ℕ, zero, suc, ◌+◌, ◌<◌, ◌≤◌, Bool, true, false, cond, not, List, [], ◌∷◌, ◌++◌, length, get_or, set, Some, None, sym, refl, ap, ◌∙◌, inl, inr, arith, slice_get, eqb-true, unwrap_or, nat_lt}
use Rattle.std.specs.List.{prefix_len, position}
use Rattle.std.proofs.lemmas.List.Sums.{prefix_len-le-length}
use Rattle.std.proofs.lemmas.Bool.Decides.{nat_tests}
use Rattle.amounts.specs.Sets.{In}
use Rattle.ledger.specs.declared.terms.Place.{Place}
use Rattle.ledger.specs.declared.terms.Place.TheVariants.{Free, Live, Cancelled}
use Rattle.ledger.specs.declared.terms.Entry.{Entry}
use Rattle.ledger.specs.Entries.{numbered}
use Rattle.ledger.specs.Table.{number_of_place, is_of, is_other, found, posted, cancelled, one_live, live_count}
use Rattle.ledger.proofs.Steps.{numbers}

abbrev ahead : ℕ → List Place → ℕ
ahead n t = prefix_len (is_other n) t

-- as many stand ahead as the first one's place tells, or all
pub first_or_all : (n : ℕ) (t : List Place) → unwrap_or (position (is_of n) t) (length t) ≡ ahead n t
first_or_all n t = go (nat_lt (ahead n t) (length t)) refl
  where
    go : (b : Bool) → nat_lt (ahead n t) (length t) ≡ b → unwrap_or (cond b (Some (ahead n t)) None) (length t) ≡ ahead n t
    go true e = refl
    go false e = grind (arith, nat_tests, e, prefix_len-le-length (is_other n) t)

pub found_at : (n : ℕ) (t : List Place) → slice_get t (ahead n t) ≡ found n t
found_at n [] = refl
found_at n (p ∷ t) = go (is_of n p) (found_at n t)
  where
    go : (b : Bool) → slice_get t (ahead n t) ≡ found n t → slice_get (p ∷ t) (cond (not b) (1 + ahead n t) 0) ≡ cond b (Some p) (found n t)
    go true h = refl
    go false h = let one : 1 + ahead n t ≡ suc (ahead n t) = omega arith in rw one h

-- what stands at the place of a number that has one
pub record At (n : ℕ) (t : List Place) (q : Place) : Type 0 where
  pub inside : ahead n t < length t
  pub here : (d : Place) → get_or t (ahead n t) d ≡ q
  pub is_number : number_of_place q ≡ n
  pub member : In q t
  pub marked : (r : Bool) → cancelled r n t ≡ set t (ahead n t) (Cancelled n)

pub at_place : (n : ℕ) (t : List Place) (q : Place) → found n t ≡ Some q → At n t q
at_place n [] q h = cc
at_place n (p ∷ t) q h = go (is_of n p) refl h (at_place n t q)
  where
    same : (x : Place) → Some p ≡ Some x → p ≡ x
    same x e = cc

    go : (b : Bool) → is_of n p ≡ b → cond b (Some p) (found n t) ≡ Some q → (found n t ≡ Some q → At n t q) → At n (p ∷ t) q
    go true e g f =
        let o : ahead n (p ∷ t) ≡ 0 = ap (λ b. cond (not b) (1 + ahead n t) 0) e in
        record {
          inside = omega (arith, o);
          here = λ d. ap (λ k. get_or (p ∷ t) k d) o ∙ same q g;
          is_number = ap number_of_place (sym (same q g)) ∙ eqb-true (number_of_place p) n e;
          member = inl (sym (same q g));
          marked = λ r. ap (λ b. cond b (Cancelled n ∷ t) (p ∷ cancelled r n t)) e ∙ ap (λ k. set (p ∷ t) k (Cancelled n)) (sym o);
        }
    go false e g f =
        let a : At n t q = f g in
        let o : ahead n (p ∷ t) ≡ suc (ahead n t) = ap (λ b. cond (not b) (1 + ahead n t) 0) e ∙ omega arith in
        record {
          inside = omega (arith, o, a.inside);
          here = λ d. ap (λ k. get_or (p ∷ t) k d) o ∙ a.here d;
          is_number = a.is_number;
          member = inr a.member;
          marked = λ r. ap (λ b. cond b (Cancelled n ∷ t) (p ∷ cancelled r n t)) e ∙ ap (λ l. p ∷ l) (a.marked r) ∙ ap (λ k. set (p ∷ t) k (Cancelled n)) (sym o);
        }

-- a number that has no place
pub record Away (n : ℕ) (t : List Place) : Type 0 where
  pub behind : ahead n t ≡ length t
  pub absent : In n (numbers t) → ⊥
  pub pushed : (r : Bool) (e : Entry) → posted r n e t ≡ t ++ cond r (Live n e ∷ []) []
  pub marked : (r : Bool) → cancelled r n t ≡ t ++ cond r (Cancelled n ∷ []) []

pub no_place : (n : ℕ) (t : List Place) → found n t ≡ None → Away n t
no_place n [] h = record { behind = refl; absent = λ i. i; pushed = λ r e. refl; marked = λ r. refl }
no_place n (p ∷ t) h = go (is_of n p) refl h (no_place n t)
  where
    go : (b : Bool) → is_of n p ≡ b → cond b (Some p) (found n t) ≡ None → (found n t ≡ None → Away n t) → Away n (p ∷ t)
    go true e g f = cc
    go false e g f =
        let a : Away n t = f g in
        record {
          behind = ap (λ b. cond (not b) (1 + ahead n t) 0) e ∙ omega (arith, a.behind);
          absent = elim [ inl q ↦ eqb-false (number_of_place p) n e (sym q) | inr i ↦ a.absent i ];
          pushed = λ r d. ap (λ b. cond b (p ∷ t) (p ∷ posted r n d t)) e ∙ ap (λ l. p ∷ l) (a.pushed r d);
          marked = λ r. ap (λ b. cond b (Cancelled n ∷ t) (p ∷ cancelled r n t)) e ∙ ap (λ l. p ∷ l) (a.marked r);
        }

-- a number that an entry can have is not that of a free place
pub never_free : (n : ℕ) (t : List Place) → numbered n ≡ true → found n t ≡ Some Free → ⊥
never_free n t e f =
    let a = at_place n t Free f in
    let z : numbered 0 ≡ true = ap numbered a.is_number ∙ e in
    false_true z
  where
    false_true : false ≡ true → ⊥
    false_true q = cc

-- ---- the count of live entries

pub live_push : (t : List Place) (p : Place) → live_count (t ++ p ∷ []) ≡ live_count t + one_live p
live_push [] p = omega arith
live_push (q ∷ t) p = omega (arith, live_push t p)

one_at_most : (p : Place) → one_live p ≤ 1
one_at_most Free = omega arith
one_at_most (Live n e) = omega arith
one_at_most (Cancelled n) = omega arith

pub live_at_most : (t : List Place) → live_count t ≤ length t
live_at_most [] = omega arith
live_at_most (p ∷ t) = omega (arith, one_at_most p, live_at_most t)

pub live_set : (t : List Place) (k : ℕ) (p d : Place) → k < length t → live_count (set t k p) + one_live (get_or t k d) ≡ live_count t + one_live p
live_set [] k p d h = absurd (omega arith)
live_set (q ∷ t) zero p d h = omega arith
live_set (q ∷ t) (suc k) p d h = omega (arith, live_set t k p d (omega arith))
