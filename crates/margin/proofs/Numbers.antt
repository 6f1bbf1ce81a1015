-- Sizes of products, and sums and products of machine words that fit.
use Rattle.std.proofs.Common.{◌≡◌, ℕ, suc, ◌*◌, ◌≤◌, ℤ, pos, negsuc, ◌+ℤ◌, ◌*ℤ◌, neg_ℤ, nat_abs, refl, ap, ◌∙◌, mul-le-mul, arith, FitsSigned, to_z, of_z}
use mir.Syntax.{Width}
use Rattle.std.proofs.lemmas.Int.{ints, to_z-of_z}

abs_neg : (z : ℤ) → nat_abs (neg_ℤ z) ≡ nat_abs z
abs_neg z = omega (arith, ints)

-- the size of a product is the product of the sizes
pub abs_product : (a b : ℤ) → nat_abs (a *ℤ b) ≡ nat_abs a * nat_abs b
abs_product (pos m) (pos n) = refl
abs_product (pos m) (negsuc n) = abs_neg (pos (m * suc n))
abs_product (negsuc m) (pos n) = abs_neg (pos (suc m * n))
abs_product (negsuc m) (negsuc n) = refl

pub product_within : (a b : ℤ) (m n : ℕ) → nat_abs a ≤ m → nat_abs b ≤ n → nat_abs (a *ℤ b) ≤ m * n
product_within a b m n h k = rw (abs_product a b) (mul-le-mul h k)

pub through_sum : (w : Width) (a r : ℤ) → FitsSigned w r → FitsSigned w (a +ℤ r) → to_z w (of_z w (a +ℤ to_z w (of_z w r))) ≡ a +ℤ r
through_sum w a r f g = ap (λ z. to_z w (of_z w (a +ℤ z))) (to_z-of_z w r f) ∙ to_z-of_z w (a +ℤ r) g

pub through_product : (w : Width) (a b : ℤ) → FitsSigned w a → FitsSigned w b → FitsSigned w (a *ℤ b) → to_z w (of_z w (to_z w (of_z w a) *ℤ to_z w (of_z w b))) ≡ a *ℤ b
through_product w a b f g h = ap (λ z. to_z w (of_z w (z *ℤ to_z w (of_z w b)))) (to_z-of_z w a f) ∙ ap (λ z. to_z w (of_z w (a *ℤ z))) (to_z-of_z w b g) ∙ to_z-of_z w (a *ℤ b) h
