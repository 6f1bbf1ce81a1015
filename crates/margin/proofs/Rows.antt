-- A row of returns added place by place.
use Rattle.std.proofs.Common.{◌≡◌, ℕ, zero, suc, ◌+◌, ◌^◌, ◌<◌, ◌≤◌, List, [], ◌∷◌, length, get_or, take, set, ℤ, pos, ◌+ℤ◌, ◌*ℤ◌, nat_abs, refl, ap, ◌∙◌, arith, w64, SFits, to_z, of_z}
use Rattle.std.specs.List.{AllByRecursion as All}
use Rattle.std.proofs.Math.IntN.{*ℤ-zero}
use Rattle.std.proofs.ByRecursion.{All-get_or}
use Rattle.std.proofs.lemmas.Int.{ints, to_z-of_z}
use Rattle.std.proofs.lemmas.List.FromFn.{fill_by_all}
use Rattle.amounts.specs.Rounding.{round_off}
use Rattle.margin.specs.Adding.{with_products}

-- the first returns' products added, one after the other
abbrev pub added : ℤ → List ℤ → List ℤ → List ℤ
added v [] ts = ts
added v (r ∷ rs) [] = []
added v (r ∷ rs) (t ∷ ts) = (t +ℤ round_off (10 ^ 8) (v *ℤ r)) ∷ added v rs ts

pub added_at : (v : ℤ) (i : ℕ) (rs ts : List ℤ) (d : ℤ) → get_or (added v (take i rs) ts) i d ≡ get_or ts i d
added_at v zero rs ts d = refl
added_at v (suc i) [] ts d = refl
added_at v (suc i) (r ∷ rs) [] d = refl
added_at v (suc i) (r ∷ rs) (t ∷ ts) d = added_at v i rs ts d

pub added_more : (v : ℤ) (i : ℕ) (rs ts : List ℤ) (d : ℤ) → i < length rs → i < length ts → set (added v (take i rs) ts) i (get_or ts i d +ℤ round_off (10 ^ 8) (v *ℤ get_or rs i d)) ≡ added v (take (i + 1) rs) ts
added_more v i [] ts d h k = absurd (omega arith)
added_more v i (r ∷ rs) [] d h k = absurd (omega arith)
added_more v zero (r ∷ rs) (t ∷ ts) d h k = refl
added_more v (suc i) (r ∷ rs) (t ∷ ts) d h k =
    let one : suc i + 1 ≡ suc (i + 1) = omega arith in
    rw one (ap (λ l. (t +ℤ round_off (10 ^ 8) (v *ℤ r)) ∷ l) (added_more v i rs ts d (omega arith) (omega arith)))

added_length : (v : ℤ) (rs ts : List ℤ) → length (added v rs ts) ≡ length ts
added_length v [] ts = refl
added_length v (r ∷ rs) [] = refl
added_length v (r ∷ rs) (t ∷ ts) = ap suc (added_length v rs ts)

nothing : (v t r : ℤ) → r ≡ pos 0 → t ≡ t +ℤ round_off (10 ^ 8) (v *ℤ r)
nothing v t r e = let z : round_off (10 ^ 8) (v *ℤ r) ≡ pos 0 = ap (λ x. round_off (10 ^ 8) (v *ℤ x)) e ∙ ap (round_off (10 ^ 8)) (*ℤ-zero v) in omega (arith, ints, z)

added_get : (v : ℤ) (rs ts : List ℤ) (i : ℕ) → i < length ts → get_or (added v rs ts) i (pos 0) ≡ get_or ts i (pos 0) +ℤ round_off (10 ^ 8) (v *ℤ get_or rs i (pos 0))
added_get v [] ts i h = nothing v (get_or ts i (pos 0)) (pos 0) refl
added_get v (r ∷ rs) [] i h = absurd (omega arith)
added_get v (r ∷ rs) (t ∷ ts) zero h = refl
added_get v (r ∷ rs) (t ∷ ts) (suc i) h = added_get v rs ts i (omega arith)

-- what is added in all, place by place
pub added_is : (v : ℤ) (rs ts : List ℤ) → added v rs ts ≡ with_products v rs ts
added_is v rs ts = fill_by_all (λ i. get_or ts i (pos 0) +ℤ round_off (10 ^ 8) (v *ℤ get_or rs i (pos 0))) (added v rs ts) (length ts) (pos 0) (added_length v rs ts) (added_get v rs ts)

-- a number as the code holds it, by way of its bits
abbrev pub through : ℤ → ℤ
through z = to_z w64 (of_z w64 z)

-- one place more, as the code adds it
module _ (v : ℤ) (rs old cur : List ℤ) (i : ℕ) (q : ℤ) (is : cur ≡ added v (take i rs) old) (h : i < length rs) (k : i < length old) (small : All (λ t. nat_abs t ≤ 2 ^ 62) old) (part : nat_abs q ≤ 80000000000) where
  here : get_or cur i (pos 0) ≡ get_or old i (pos 0)
  here = ap (λ l. get_or l i (pos 0)) is ∙ added_at v i rs old (pos 0)

  size : nat_abs (get_or old i (pos 0)) ≤ 4611686018427387904
  size = All-get_or (λ t. nat_abs t ≤ 2 ^ 62) old i (pos 0) k small

  through_old : through (get_or cur i (pos 0)) ≡ get_or old i (pos 0)
  through_old = let s = size in let f : SFits w64 (get_or old i (pos 0)) = omega (arith, ints) in ap through here ∙ to_z-of_z w64 (get_or old i (pos 0)) f

  through_part : through q ≡ q
  through_part = let f : SFits w64 q = omega (arith, ints) in to_z-of_z w64 q f

  fits : SFits w64 (get_or old i (pos 0) +ℤ q)
  fits = let s = size in omega (arith, ints)

  pub sum_fits : SFits w64 (through (get_or cur i (pos 0)) +ℤ through q)
  sum_fits = rw (through_old, through_part) fits

  pub one_more : q ≡ round_off (10 ^ 8) (v *ℤ get_or rs i (pos 0)) → set cur i (through (through (get_or cur i (pos 0)) +ℤ through q)) ≡ added v (take (i + 1) rs) old
  one_more e =
      let sum : through (through (get_or cur i (pos 0)) +ℤ through q) ≡ get_or old i (pos 0) +ℤ q = rw (through_old, through_part) (to_z-of_z w64 (get_or old i (pos 0) +ℤ q) fits) in
      (λ j. set (is j) i (sum j)) ∙ ap (λ z. set (added v (take i rs) old) i (get_or old i (pos 0) +ℤ z)) e ∙ added_more v i rs old (pos 0) h k
