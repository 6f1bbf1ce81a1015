-- Rounding off to the nearest whole dollar, a half away from zero, and rounding up to a step. Assumes nothing.
use Rattle.std.specs.Prelude.{◌≡◌, ℕ, suc, ◌+◌, ◌-◌, ◌*◌, ◌/◌, ◌%◌, ◌<◌, ◌≤◌, ℤ, pos, negsuc, ◌*ℤ◌, neg_ℤ}
use Rattle.amounts.specs.Tails.{Near}

-- n / d to the nearest whole number, a half upwards; d is above 0
abbrev pub nearest : ℕ → ℕ → ℕ
nearest d n = (2 * n + d) / (2 * d)

-- z / d to the nearest whole number, a half away from zero; d is above 0
abbrev pub round_off : ℕ → ℤ → ℤ
round_off d (pos n) = pos (nearest d n)
round_off d (negsuc n) = neg_ℤ (pos (nearest d (suc n)))

-- the least multiple of the step that is at least n
abbrev pub round_up : ℕ → ℕ → ℕ
round_up step n = (n + (step - 1)) / step * step

-- the least multiple of the step that is at least z
abbrev pub round_up_int : ℕ → ℤ → ℤ
round_up_int step (pos n) = pos (round_up step n)
round_up_int step (negsuc n) = neg_ℤ (pos (suc n / step * step))

-- Rounding off moves a figure by at most half a unit.
abbrev pub RoundOffIsNear : Type 0
RoundOffIsNear = (d : ℕ) (z : ℤ) → 0 < d → Near d (pos (2 * d) *ℤ round_off d z) (pos 2 *ℤ z)

-- Rounding up goes to a multiple of the step, from less than a step below it.
abbrev pub RoundUpIsNear : Type 0
RoundUpIsNear = (step n : ℕ) → 0 < step → (n ≤ round_up step n) × (round_up step n < n + step) × (round_up step n % step ≡ 0)
