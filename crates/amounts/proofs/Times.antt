-- Figures that are multiplied when all values are.
use Rattle.std.proofs.Common.{◌≡◌, ℕ, ◌*◌, ◌≤◌, Bool, true, false, List, map, ℤ, pos, ◌+ℤ◌, ◌*ℤ◌, neg_ℤ, sym, ap, ◌∙◌, ap₂, mul_left_comm}
use mathlib.Core.Path.{fun_ext}
use lib.IntN.{*ℤ-zero}
use Rattle.std.specs.Int.{int_max}
use Rattle.std.specs.List.{range_with_len}
use Rattle.amounts.specs.Sums.{sum_of, when}
use Rattle.amounts.specs.Tails.{tail_sum}
use Rattle.amounts.specs.Charges.{long, short, sided}
use Rattle.amounts.proofs.Whole.{mul_z_add, mul_z_neg, mul_z_swap, mul_z_max, sum_of_mul}
use Rattle.amounts.proofs.Near.{tail_scale}
use Rattle.amounts.proofs.Charge.{long_scale, short_scale}

module _ (c : ℕ) where
  -- a figure of the values is multiplied
  pub sum_times : {X : Type 0} (f g : X → ℤ) (xs : List X) → ((x : X) → g x ≡ pos c *ℤ f x) → sum_of g xs ≡ pos c *ℤ sum_of f xs
  sum_times f g xs e = ap (λ h. sum_of h xs) (fun_ext e) ∙ sum_of_mul (pos c) f xs

  pub when_times : (b : Bool) (x y : ℤ) → y ≡ pos c *ℤ x → when b y ≡ pos c *ℤ when b x
  when_times true x y e = e
  when_times false x y e = sym (*ℤ-zero (pos c))

  pub tail_times : (k n : ℕ) (f g : ℕ → ℤ) → k ≤ n → ((i : ℕ) → g i ≡ pos c *ℤ f i) → tail_sum k (map g (range_with_len 0 n)) ≡ pos c *ℤ tail_sum k (map f (range_with_len 0 n))
  tail_times k n f g l e = ap (λ h. tail_sum k (map h (range_with_len 0 n))) (fun_ext e) ∙ tail_scale c k n f l

  pub max_times : (x y u v : ℤ) → u ≡ pos c *ℤ x → v ≡ pos c *ℤ y → int_max u v ≡ pos c *ℤ int_max x y
  max_times x y u v p q = ap₂ int_max p q ∙ sym (mul_z_max c x y)

  pub add_times : (x y u v : ℤ) → u ≡ pos c *ℤ x → v ≡ pos c *ℤ y → u +ℤ v ≡ pos c *ℤ (x +ℤ y)
  add_times x y u v p q = ap₂ ◌+ℤ◌ p q ∙ sym (mul_z_add (pos c) x y)

  pub mul_times : (w : ℕ) (x u : ℤ) → u ≡ pos c *ℤ x → pos w *ℤ u ≡ pos c *ℤ (pos w *ℤ x)
  mul_times w x u p = ap (λ z. pos w *ℤ z) p ∙ mul_z_swap w c x

  pub neg_times : (x u : ℤ) → u ≡ pos c *ℤ x → neg_ℤ u ≡ pos c *ℤ neg_ℤ x
  neg_times x u p = ap neg_ℤ p ∙ sym (mul_z_neg (pos c) x)

  pub sided_times : (p q : ℕ) (x u : ℤ) → u ≡ pos c *ℤ x → sided p q u ≡ pos c *ℤ sided p q x
  sided_times p q x u e =
      add_times _ _ _ _ (mul_times p (long x) (long u) (ap long e ∙ sym (long_scale c x))) (mul_times q (short x) (short u) (ap short e ∙ sym (short_scale c x)))

  pub amount_times : (w m n : ℕ) → n ≡ c * m → pos (w * n) ≡ pos c *ℤ pos (w * m)
  amount_times w m n e = ap pos (ap (λ j. w * j) e ∙ mul_left_comm w c m)
