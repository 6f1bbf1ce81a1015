-- The size of a rounded figure. Assumes nothing.
use Rattle.std.proofs.Common.{◌≡◌, ℕ, suc, ◌+◌, ◌*◌, ◌^◌, w64, to_z, of_z, ◌<◌, ◌≤◌, ◌⊎◌, ℤ, pos, negsuc, neg_ℤ, unsigned_abs, inl, inr, mul-le-mul_left, div-add-mod', arith}
use mir.Syntax.{w128}
use Rattle.std.proofs.lemmas.Int.{ints}
use Rattle.std.proofs.lemmas.Bool.{cases_lt}
use Rattle.amounts.specs.Rounding.{nearest, round_off}

nearest_small : (d n b : ℕ) → 0 < d → n ≤ d * b → nearest d n ≤ b
nearest_small d n b h k = go (cases_lt b (nearest d n))
  where
    go : (b < nearest d n) ⊎ (nearest d n ≤ b) → nearest d n ≤ b
    go (inl l) =
        let q = nearest d n in
        let m : (2 * d) * (b + 1) ≤ (2 * d) * q = mul-le-mul_left {m = b + 1} {n = q} (2 * d) (omega (arith, l)) in
        absurd (omega (arith, div-add-mod' (2 * n + d) (2 * d), m))
    go (inr l) = l

abs_neg : (z : ℤ) → unsigned_abs (neg_ℤ z) ≡ unsigned_abs z
abs_neg z = omega (arith, ints)

pub round_small : (d : ℕ) (z : ℤ) (b : ℕ) → 0 < d → unsigned_abs z ≤ d * b → unsigned_abs (round_off d z) ≤ b
round_small d (pos n) b h k = nearest_small d n b h k
round_small d (negsuc n) b h k = omega (arith, abs_neg (pos (nearest d (suc n))), nearest_small d (suc n) b h k)

-- a number as wide code hands it on
pub wide : (z : ℤ) → unsigned_abs z ≤ 10 ^ 30 → to_z w128 (of_z w128 z) ≡ z
wide z h = omega (arith, ints)

pub narrow : (z : ℤ) → unsigned_abs z < 9223372036854775808 → to_z w64 (of_z w64 (to_z w128 (of_z w128 z))) ≡ z
narrow z h = omega (arith, ints)
