-- The last steps of a margin, over plain numbers: rounded up to the step, what is due, and what is added beside.
use Rattle.std.proofs.Common.{◌≡◌, ℕ, ◌+◌, ◌*◌, ◌<◌, ℤ, pos, ◌+ℤ◌, ◌*ℤ◌, ◌≤ℤ◌, ap, ◌∙◌, mul-add, arith}
use Rattle.std.proofs.lemmas.Int.{ints}
use Rattle.amounts.specs.Tails.{Near}
use Rattle.amounts.specs.Rounding.{round_up_int}
use Rattle.amounts.specs.Charges.{due}
use Rattle.amounts.proofs.Whole.{mul_z_add, mul_z_mono}
use Rattle.amounts.proofs.Round.{up_low, up_high}
use Rattle.amounts.proofs.Charge.{due_shift, due_scale}

module _ (k n step credit beside : ℕ) (x y m : ℤ) (some : 0 < step) (near : Near (k * (n + 3)) (pos k *ℤ x) y) where
  abbrev pub up : ℤ
  up = round_up_int step x

  pub up_scaled_low : y ≤ℤ (pos k *ℤ up +ℤ pos (k * (n + 3)))
  up_scaled_low = omega (arith, ints, near.high, mul_z_mono k x (round_up_int step x) (up_low step x some))

  pub up_scaled_high : (pos k *ℤ up) ≤ℤ (y +ℤ pos (k * (n + 2 + step)))
  up_scaled_high =
      omega (arith, ints, near.low, mul_z_mono k (round_up_int step x +ℤ pos 1) (x +ℤ pos step) (up_high step x some), mul_z_add (pos k) (round_up_int step x) (pos 1), mul_z_add (pos k) x (pos step), mul-add k n 3, mul-add k (n + 2) step, mul-add k n 2)

  pub scaled : pos k *ℤ (due up m (pos credit) +ℤ pos beside) ≡ due (pos k *ℤ up) (pos k *ℤ m) (pos (k * credit)) +ℤ pos (k * beside)
  scaled = mul_z_add (pos k) (due up m (pos credit)) (pos beside) ∙ ap (λ z. z +ℤ pos (k * beside)) (due_scale k up m (pos credit))

  pub close_low : (due y (pos k *ℤ m) (pos (k * credit)) +ℤ pos (k * beside)) ≤ℤ (pos k *ℤ ((due up m (pos credit) +ℤ pos beside) +ℤ pos (n + 3)))
  close_low = low_of (due y (pos k *ℤ m) (pos (k * credit))) (due (pos k *ℤ up) (pos k *ℤ m) (pos (k * credit))) (due up m (pos credit)) (due_shift y (pos k *ℤ up) (pos k *ℤ m) (pos (k * credit)) (k * (n + 3)) (omega (arith, ints)) up_scaled_low) scaled
    where
      low_of : (u v w : ℤ) → u ≤ℤ (v +ℤ pos (k * (n + 3))) → pos k *ℤ (w +ℤ pos beside) ≡ v +ℤ pos (k * beside) → (u +ℤ pos (k * beside)) ≤ℤ (pos k *ℤ ((w +ℤ pos beside) +ℤ pos (n + 3)))
      low_of u v w h e = omega (arith, ints, mul_z_add (pos k) (w +ℤ pos beside) (pos (n + 3)))

  pub close_high : (pos k *ℤ (due up m (pos credit) +ℤ pos beside)) ≤ℤ ((due y (pos k *ℤ m) (pos (k * credit)) +ℤ pos (k * beside)) +ℤ pos k *ℤ pos (n + 2 + step))
  close_high = high_of (due y (pos k *ℤ m) (pos (k * credit))) (due (pos k *ℤ up) (pos k *ℤ m) (pos (k * credit))) (due up m (pos credit)) (due_shift (pos k *ℤ up) y (pos k *ℤ m) (pos (k * credit)) (k * (n + 2 + step)) (omega (arith, ints)) up_scaled_high) scaled
    where
      high_of : (u v w : ℤ) → v ≤ℤ (u +ℤ pos (k * (n + 2 + step))) → pos k *ℤ (w +ℤ pos beside) ≡ v +ℤ pos (k * beside) → (pos k *ℤ (w +ℤ pos beside)) ≤ℤ ((u +ℤ pos (k * beside)) +ℤ pos k *ℤ pos (n + 2 + step))
      high_of u v w h e = omega (arith, ints)
