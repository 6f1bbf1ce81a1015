-- How far rounding off moves a number.
use Rattle.std.proofs.Common.{ℕ, suc, ◌+◌, ◌-◌, ◌*◌, ◌/◌, ◌<◌, ◌≤◌, ℤ, pos, negsuc, ◌+ℤ◌, ◌≤ℤ◌, mod-lt, div-add-mod', arith}
use native.Mathlib.Nat.{div-add-mod, mul-mod_left}
use Rattle.std.proofs.lemmas.Int.{ints}
use Rattle.amounts.proofs.Whole.{mul_z_neg}
use Rattle.amounts.specs.Rounding.{nearest, round_up_int, RoundOffIsNear, RoundUpIsNear}

-- 2 d q is within d of 2 n
pub nearest_near : (d n : ℕ) → 0 < d → (2 * d * nearest d n ≤ 2 * n + d) × (2 * n < 2 * d * nearest d n + d)
nearest_near d n h = omega (arith, div-add-mod (2 * n + d) (2 * d), mod-lt (2 * n + d) {m = 2 * d} (omega arith))

pub round_off_near : RoundOffIsNear
round_off_near d (pos n) h = let p = nearest_near d n h in record { low = omega (arith, ints); high = omega (arith, ints) }
round_off_near d (negsuc n) h = let p = nearest_near d (suc n) h in let e = mul_z_neg (pos (2 * d)) (pos (nearest d (suc n))) in record { low = omega (arith, ints); high = omega (arith, ints) }

pub round_up_near : RoundUpIsNear
round_up_near step n h =
    (omega (arith, div-add-mod' (n + (step - 1)) step, mod-lt (n + (step - 1)) h), omega (arith, div-add-mod' (n + (step - 1)) step, mod-lt (n + (step - 1)) h), mul-mod_left ((n + (step - 1)) / step) step)

-- the rounding up to the step
pub up_low : (step : ℕ) (z : ℤ) → 0 < step → z ≤ℤ round_up_int step z
up_low step (pos n) h = omega (arith, ints, (round_up_near step n h).0)
up_low step (negsuc n) h = omega (arith, ints, div-add-mod' (suc n) step)

pub up_high : (step : ℕ) (z : ℤ) → 0 < step → (round_up_int step z +ℤ pos 1) ≤ℤ (z +ℤ pos step)
up_high step (pos n) h = omega (arith, ints, (round_up_near step n h).1)
up_high step (negsuc n) h = omega (arith, ints, div-add-mod' (suc n) step, mod-lt (suc n) h)
