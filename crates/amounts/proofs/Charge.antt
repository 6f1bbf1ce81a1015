-- Charges that grow no faster than what they are made on.
use Rattle.std.proofs.Common.{◌≡◌, ℕ, ℤ, pos, ◌+ℤ◌, ◌-ℤ◌, ◌*ℤ◌, neg_ℤ, ◌≤ℤ◌, ap, ◌∙◌, arith}
use lib.IntN.{*ℤ-zero}
use Rattle.std.specs.Int.{int_max}
use Rattle.std.proofs.lemmas.Int.{ints, clamps}
use Rattle.amounts.specs.Sums.{sum_of}
use Rattle.amounts.specs.Charges.{long, short, sided, greater_side, due, SidedAdds, GreaterSideAdds, DueAdds}
use Rattle.amounts.proofs.Whole.{mul_z_add, mul_z_mono, sum_of_add, sum_of_le, max_least, max_left, max_right, mul_z_max, mul_z_neg}
use Rattle.amounts.proofs.Near.{Under}

pub long_adds : (x y : ℤ) → long (x +ℤ y) ≤ℤ (long x +ℤ long y)
long_adds x y = omega (arith, ints, clamps)

pub short_adds : (x y : ℤ) → short (x +ℤ y) ≤ℤ (short x +ℤ short y)
short_adds x y = omega (arith, ints, clamps)

pub sided_adds : SidedAdds
sided_adds p q x y =
    omega (arith, ints, mul_z_mono p (long (x +ℤ y)) (long x +ℤ long y) (long_adds x y), mul_z_add (pos p) (long x) (long y), mul_z_mono q (short (x +ℤ y)) (short x +ℤ short y) (short_adds x y), mul_z_add (pos q) (short x) (short y))

pub greater_adds : GreaterSideAdds
greater_adds f g h xs e =
    max_least (sum_of (λ x. long (h x)) xs) (sum_of (λ x. short (h x)) xs) (greater_side f xs +ℤ greater_side g xs)
    (omega (arith, ints, total long long_adds, max_left (sum_of (λ x. long (f x)) xs) (sum_of (λ x. short (f x)) xs), max_left (sum_of (λ x. long (g x)) xs) (sum_of (λ x. short (g x)) xs)))
    (omega (arith, ints, total short short_adds, max_right (sum_of (λ x. long (f x)) xs) (sum_of (λ x. short (f x)) xs), max_right (sum_of (λ x. long (g x)) xs) (sum_of (λ x. short (g x)) xs)))
  where
    total : (side : ℤ → ℤ) → ((x y : ℤ) → side (x +ℤ y) ≤ℤ (side x +ℤ side y)) → sum_of (λ x. side (h x)) xs ≤ℤ (sum_of (λ x. side (f x)) xs +ℤ sum_of (λ x. side (g x)) xs)
    total side adds =
        rw (sum_of_add (λ x. side (f x)) (λ x. side (g x)) xs) at (sum_of_le (λ x. side (h x)) (λ x. side (f x) +ℤ side (g x)) xs (λ x. rw (e x) (adds (f x) (g x))))

-- the credit is at least 0, so what is due is the greater of two plain figures
pub due_least : (a m c t : ℤ) → pos 0 ≤ℤ c → short m ≤ℤ t → (a -ℤ c -ℤ m) ≤ℤ t → due a m c ≤ℤ t
due_least a m c t z h k = omega (arith, ints, clamps)

pub due_short : (a m c : ℤ) → short m ≤ℤ due a m c
due_short a m c = omega (arith, ints, clamps)

pub due_rest : (a m c : ℤ) → (a -ℤ c -ℤ m) ≤ℤ due a m c
due_rest a m c = omega (arith, ints, clamps)

pub due_adds : DueAdds
due_adds a₁ a₂ a m₁ m₂ c₁ c₂ h p q =
    due_least a (m₁ +ℤ m₂) (c₁ +ℤ c₂) (due a₁ m₁ c₁ +ℤ due a₂ m₂ c₂) (omega (arith, ints))
    (omega (arith, ints, short_adds m₁ m₂, due_short a₁ m₁ c₁, due_short a₂ m₂ c₂))
    (omega (arith, ints, due_rest a₁ m₁ c₁, due_rest a₂ m₂ c₂))

-- what is due goes with the aggregate
pub due_shift : (a b m c : ℤ) (d : ℕ) → pos 0 ≤ℤ c → a ≤ℤ (b +ℤ pos d) → due a m c ≤ℤ (due b m c +ℤ pos d)
due_shift a b m c d z h = due_least a m c (due b m c +ℤ pos d) z (omega (arith, ints, due_short b m c)) (omega (arith, ints, due_rest b m c))

-- a factor goes into each charge
module _ (k : ℕ) where
  pub max_scale : (x : ℤ) → pos k *ℤ int_max (pos 0) x ≡ int_max (pos 0) (pos k *ℤ x)
  max_scale x = mul_z_max k (pos 0) x ∙ ap (λ z. int_max z (pos k *ℤ x)) (*ℤ-zero (pos k))

  pub long_scale : (m : ℤ) → pos k *ℤ long m ≡ long (pos k *ℤ m)
  long_scale m = mul_z_max k m (pos 0) ∙ ap (λ z. int_max (pos k *ℤ m) z) (*ℤ-zero (pos k))

  pub short_scale : (m : ℤ) → pos k *ℤ short m ≡ short (pos k *ℤ m)
  short_scale m = mul_z_max k (neg_ℤ m) (pos 0) ∙ ap (λ z. int_max (pos k *ℤ neg_ℤ m) z) (*ℤ-zero (pos k)) ∙ ap (λ z. int_max z (pos 0)) (mul_z_neg (pos k) m)

  pub sub_scale : (x y : ℤ) → pos k *ℤ (x -ℤ y) ≡ pos k *ℤ x -ℤ pos k *ℤ y
  sub_scale x y = mul_z_add (pos k) x (neg_ℤ y) ∙ ap (λ z. pos k *ℤ x +ℤ z) (mul_z_neg (pos k) y)

  pub due_scale : (a m c : ℤ) → pos k *ℤ due a m c ≡ due (pos k *ℤ a) (pos k *ℤ m) (pos k *ℤ c)
  due_scale a m c =
      mul_z_add (pos k) (int_max (pos 0) (int_max (pos 0) (a -ℤ long m) -ℤ c)) (short m) ∙
      ap (λ z. z +ℤ pos k *ℤ short m) (max_scale (int_max (pos 0) (a -ℤ long m) -ℤ c) ∙ ap (int_max (pos 0)) inner) ∙
      ap (λ z. int_max (pos 0) (int_max (pos 0) (pos k *ℤ a -ℤ long (pos k *ℤ m)) -ℤ pos k *ℤ c) +ℤ z) (short_scale m)
    where
      inner : pos k *ℤ (int_max (pos 0) (a -ℤ long m) -ℤ c) ≡ int_max (pos 0) (pos k *ℤ a -ℤ long (pos k *ℤ m)) -ℤ pos k *ℤ c
      inner =
          sub_scale (int_max (pos 0) (a -ℤ long m)) c ∙
          ap (λ z. z -ℤ pos k *ℤ c) (max_scale (a -ℤ long m) ∙ ap (int_max (pos 0)) (sub_scale a (long m) ∙ ap (λ z. pos k *ℤ a -ℤ z) (long_scale m)))

pub zero_sided : (p q : ℕ) → sided p q (pos 0) ≡ pos 0
zero_sided p q = omega (arith, ints)

pub sided_under : (p q : ℕ) (x y z : ℤ) → x ≡ y +ℤ z → Under (sided p q x) (sided p q y) (sided p q z)
sided_under p q x y z e = record { le = rw e (sided_adds p q y z) }

pub due_under : (a m c a₁ m₁ c₁ a₂ m₂ c₂ : ℤ) → Under a a₁ a₂ → m ≡ m₁ +ℤ m₂ → c ≡ c₁ +ℤ c₂ → pos 0 ≤ℤ c₁ → pos 0 ≤ℤ c₂ → Under (due a m c) (due a₁ m₁ c₁) (due a₂ m₂ c₂)
due_under a m c a₁ m₁ c₁ a₂ m₂ c₂ u em ec p q = record { le = rw (em, ec) (due_adds a₁ a₂ a m₁ m₂ c₁ c₂ u.le p q) }
