-- The parts of a decimal, and bounds on its size. Assumes nothing.
use Rattle.std.proofs.Common.{◌≡◌, ℕ, zero, suc, ◌+◌, ◌-◌, ◌*◌, ◌^◌, ◌<◌, ◌≤◌, List, [], ◌∷◌, length, get_or, take, sym, refl, ap, ◌∙◌, mul-le-mul, mul-le-mul_right, mul_assoc, min, ⊎_elim, arith}
use native.Mathlib.Nat.{pow-le-pow_right}
use Rattle.std.proofs.lemmas.Nat.{pow-add}
use Rattle.std.proofs.lemmas.List.{take_all, length-take}
use Rattle.std.proofs.lemmas.Bool.{cases_lt}

abbrev pub powers : List ℕ
powers = 1 ∷ 10 ∷ 100 ∷ 1000 ∷ 10000 ∷ 100000 ∷ 1000000 ∷ 10000000 ∷ 100000000 ∷ 1000000000 ∷ 10000000000 ∷ []

pub powers_at : (k : ℕ) → k ≤ 10 → (get_or powers k 0 ≡ 10 ^ k) × (get_or powers k 0 ≤ 10000000000)
powers_at zero h = (refl, omega arith)
powers_at (suc zero) h = (refl, omega arith)
powers_at (suc (suc zero)) h = (refl, omega arith)
powers_at (suc (suc (suc zero))) h = (refl, omega arith)
powers_at (suc (suc (suc (suc zero)))) h = (refl, omega arith)
powers_at (suc (suc (suc (suc (suc zero))))) h = (refl, omega arith)
powers_at (suc (suc (suc (suc (suc (suc zero)))))) h = (refl, omega arith)
powers_at (suc (suc (suc (suc (suc (suc (suc zero))))))) h = (refl, omega arith)
powers_at (suc (suc (suc (suc (suc (suc (suc (suc zero)))))))) h = (refl, omega arith)
powers_at (suc (suc (suc (suc (suc (suc (suc (suc (suc zero))))))))) h = (refl, omega arith)
powers_at (suc (suc (suc (suc (suc (suc (suc (suc (suc (suc zero)))))))))) h = (refl, omega arith)
powers_at (suc (suc (suc (suc (suc (suc (suc (suc (suc (suc (suc k))))))))))) h = absurd (omega arith)

-- a whole part of at most four digits, in units of the last of p places
pub whole_product : (n k p : ℕ) → k ≤ 4 → p ≤ 10 → n + 23 ≤ 23 * 10 ^ k → n * 10 ^ p ≤ 2300000000000000
whole_product n k p a b h =
    let four : 10 ^ k ≤ 10 ^ 4 = pow-le-pow_right (omega arith) a in
    let ten : 10 ^ p ≤ 10 ^ 10 = pow-le-pow_right (omega arith) b in
    let less : n ≤ 230000 = omega arith in
    omega (arith, mul-le-mul less ten)

-- the digits after the point: k of them, in p places
pub fraction_product : (n k p : ℕ) → k ≤ p → p ≤ 10 → n + 23 ≤ 23 * 10 ^ k → n * 10 ^ (p - k) ≤ 230000000000
fraction_product n k p a b h =
    let ten : 10 ^ p ≤ 10 ^ 10 = pow-le-pow_right (omega arith) b in
    let less : n ≤ 23 * 10 ^ k = omega arith in
    let sum : k + (p - k) ≡ p = omega arith in
    let all : 10 ^ k * 10 ^ (p - k) ≡ 10 ^ p = sym (pow-add 10 k (p - k)) ∙ ap (λ (m : ℕ). 10 ^ m) sum in
    let same : 23 * 10 ^ k * 10 ^ (p - k) ≡ 23 * 10 ^ p = mul_assoc 23 (10 ^ k) (10 ^ (p - k)) ∙ ap (λ (m : ℕ). 23 * m) all in
    omega (arith, mul-le-mul_right (10 ^ (p - k)) less, same, ten)

pub same_unit : (p : ℕ) (f : List ℕ) → p - length (take p f) ≡ p - length f
same_unit p f = omega (arith, length-take p f)

-- no more than p are taken
pub take_least : (p : ℕ) (f : List ℕ) → take (min (length f) p) f ≡ take p f
take_least p f =
    ⊎_elim
    (λ (h : p < length f). let same : min (length f) p ≡ p = omega arith in ap (λ (k : ℕ). take k f) same)
    (λ (h : length f ≤ p). take_all (min (length f) p) f (omega arith) ∙ sym (take_all p f h))
    (cases_lt p (length f))

-- a whole part of at most four digits
pub small_whole_part : (n k : ℕ) → k ≤ 4 → (n + 1) * 10 ^ (10 - k) ≤ 10000000000 → n < 10000
small_whole_part n zero h e = omega arith
small_whole_part n (suc zero) h e = omega arith
small_whole_part n (suc (suc zero)) h e = omega arith
small_whole_part n (suc (suc (suc zero))) h e = omega arith
small_whole_part n (suc (suc (suc (suc zero)))) h e = omega arith
small_whole_part n (suc (suc (suc (suc (suc k))))) h e = absurd (omega arith)

pub digits_whole_product : (n u : ℕ) → n < 10000 → u ≤ 10000000000 → n * u ≤ 100000000000000
digits_whole_product n u h k =
    let small : n ≤ 10000 = omega arith in
    mul-le-mul small k

-- the digits after the point: k of them, in p places
pub digits_fraction_product : (n k p : ℕ) → k ≤ p → p ≤ 10 → (n + 1) * 10 ^ (10 - k) ≤ 10000000000 → n * 10 ^ (p - k) ≤ 10000000000
digits_fraction_product n k p a b h =
    let less : p - k ≤ 10 - k = omega arith in
    let power : 10 ^ (p - k) ≤ 10 ^ (10 - k) = pow-le-pow_right (omega arith) less in
    let one : n ≤ n + 1 = omega arith in
    omega (arith, mul-le-mul one power, h)
