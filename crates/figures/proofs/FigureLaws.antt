-- A number's text from that of its front and its last digits. Assumes nothing.
use Rattle.std.proofs.Common.{◌≡◌, ℕ, zero, suc, ◌-◌, ◌/◌, ◌%◌, ◌^◌, ◌<◌, ◌≤◌, ◌⊎◌, ◌++◌, codes, decimal, ℤ, pos, negsuc, ◌<ℤ◌, ◌≤ℤ◌, unsigned_abs, refl, inl, inr, sub-one, add-one, arith, rules}
use Rattle.std.proofs.lemmas.Int.{ints}
use Rattle.std.proofs.Math.Nat.{pow-suc}
use Rattle.figures.specs.Figures.{padded, separated, dollars}

pub padded_more : (k n : ℕ) → 0 < k → padded (k - 1) (n / 10) ++ decimal (n % 10) ≡ padded k n
padded_more zero n h = absurd (omega arith)
padded_more (suc k) n h = rw sub-one refl

pub separated_alone : (k n : ℕ) → (k ≡ 0) ⊎ (n < 1000) → decimal n ≡ separated k n
separated_alone zero n h = refl
separated_alone (suc k) n (inl e) = absurd (omega arith)
separated_alone (suc k) n (inr h) = search rules

pub separated_more : (k n : ℕ) → 0 < k → 1000 ≤ n → separated (k - 1) (n / 1000) ++ (codes "," ++ padded 3 n) ≡ separated k n
separated_more zero n h l = absurd (omega arith)
separated_more (suc k) n h l = rw sub-one (search rules)

-- the text of an amount from that of its size
pub dollars_below : (z : ℤ) (n : ℕ) → z <ℤ pos 0 → n ≡ unsigned_abs z → codes "-" ++ separated 6 n ≡ dollars z
dollars_below (pos m) n h e = absurd (omega (arith, ints))
dollars_below (negsuc m) n h e = rw e (rw add-one refl)

pub dollars_from : (z : ℤ) (n : ℕ) → pos 0 ≤ℤ z → n ≡ unsigned_abs z → separated 6 n ≡ dollars z
dollars_from (pos m) n h e = rw e refl
dollars_from (negsuc m) n h e = absurd (omega (arith, ints))

pub ten_pow : (k : ℕ) → 0 < 10 ^ k
ten_pow zero = omega arith
ten_pow (suc k) = omega (arith, pow-suc 10 k, ten_pow k)
