-- Loops over digits. Assumes nothing.
use Rattle.std.proofs.Common.{◌≡◌, ℕ, suc, ◌+◌, ◌-◌, ◌*◌, ◌^◌, ◌<◌, ◌≤◌, Bool, true, false, ◌&&◌, List, [], ◌∷◌, length, get_or, drop, sym, refl, ap, ◌∙◌, mul-le-mul_right, mul_assoc, mul-le-mul_left, arith}
use native.Mathlib.Nat.{one-le-pow, pow-succ', pow-le-pow_right}
use Rattle.std.specs.List.{AllByRecursion as All, list_all}
use Rattle.std.proofs.lemmas.Nat.{pow-add}
use Rattle.std.proofs.lemmas.List.{at_drop_more, at_drop_all}
use Rattle.parameter_text.specs.Digits.{Digit, every, number}

module _ (p : ℕ → Bool) (xs : List ℕ) (i : ℕ) where
  pub every_more : i < length xs → p (get_or xs i 0) ≡ true → every p (drop i xs) ≡ every p (drop (i + 1) xs)
  every_more h e = at_drop_more (every p) xs i 0 h ∙ ap (λ (b : Bool). b && every p (drop (i + 1) xs)) e

  pub every_not : i < length xs → p (get_or xs i 0) ≡ false → every p (drop i xs) ≡ false
  every_not h e = at_drop_more (every p) xs i 0 h ∙ ap (λ (b : Bool). b && every p (drop (i + 1) xs)) e

  pub every_end : length xs ≤ i → every p (drop i xs) ≡ true
  every_end h = at_drop_all (every p) xs i h

pub small_whole : {top : ℕ} (w r : ℕ) → (w + 1) * 10 ^ r ≤ top → w < top
small_whole w r h = omega (arith, mul-le-mul_left (w + 1) (one-le-pow r 10 (omega arith)))

pub room_step : {top : ℕ} (w r d : ℕ) → 0 < r → d ≤ 9 → (w + 1) * 10 ^ r ≤ top → (w * 10 + d + 1) * 10 ^ (r - 1) ≤ top
room_step w r d p q h =
    let one : suc (r - 1) ≡ r = omega arith in
    let ten : 10 ^ r ≡ 10 * 10 ^ (r - 1) = ap (λ n. 10 ^ n) (sym one) ∙ pow-succ' 10 (r - 1) in
    let same : (w + 1) * 10 ^ r ≡ (w + 1) * 10 * 10 ^ (r - 1) = ap (λ n. (w + 1) * n) ten ∙ sym (mul_assoc (w + 1) 10 (10 ^ (r - 1))) in
    let less : w * 10 + d + 1 ≤ (w + 1) * 10 = omega arith in
    omega (arith, mul-le-mul_right (10 ^ (r - 1)) less)

pub every_all : (p : ℕ → Bool) (xs : List ℕ) → every p xs ≡ list_all p xs
every_all p [] = refl
every_all p (x ∷ xs) = ap (λ (b : Bool). p x && b) (every_all p xs)

-- bytes read so far, and the number that they write: no byte adds more than 207 to ten times the number before it
pub record SoFar (xs : List ℕ) (i n : ℕ) : Type 0 where
  pub value : number n (drop i xs) ≡ number 0 xs
  pub small : n + 23 ≤ 23 * 10 ^ i

pub so_far_none : (xs : List ℕ) → SoFar xs 0 0
so_far_none xs = record { value = refl; small = omega arith }

pub next_small : (n i x : ℕ) → n + 23 ≤ 23 * 10 ^ i → x < 256 → n * 10 + (x - 48) + 23 ≤ 23 * 10 ^ (i + 1)
next_small n i x h k =
    let ten : 10 ^ suc i ≡ 10 * 10 ^ i = pow-succ' 10 i in
    let one : i + 1 ≡ suc i = omega arith in
    rw one (omega (arith, ten))

pub room : (n i : ℕ) → i ≤ 10 → n + 23 ≤ 23 * 10 ^ i → n < 230000000000
room n i k h = let less : 10 ^ i ≤ 10 ^ 10 = pow-le-pow_right (omega arith) k in omega arith

pub so_far_more : (xs : List ℕ) (i n : ℕ) → SoFar xs i n → i < length xs → get_or xs i 0 < 256 → SoFar xs (i + 1) (n * 10 + (get_or xs i 0 - 48))
so_far_more xs i n s h k = record { value = sym (at_drop_more (number n) xs i 0 h) ∙ s.value; small = next_small n i (get_or xs i 0) s.small k }

pub so_far_all : (xs : List ℕ) (i n : ℕ) → SoFar xs i n → length xs ≤ i → n ≡ number 0 xs
so_far_all xs i n s h = sym (at_drop_all (number n) xs i h) ∙ s.value

-- digits alone write less than that
digits_room : (n : ℕ) (xs : List ℕ) → All Digit xs → number n xs + 1 ≤ (n + 1) * 10 ^ length xs
digits_room n [] h = omega arith
digits_room n (x ∷ xs) h =
    let m = n * 10 + (x - 48) in
    let d : 48 ≤ x = h.0.0 in
    let e : x ≤ 57 = h.0.1 in
    let more : number m xs + 1 ≤ (m + 1) * 10 ^ length xs = digits_room m xs h.1 in
    let less : m + 1 ≤ (n + 1) * 10 = omega arith in
    let ten : 10 ^ suc (length xs) ≡ 10 * 10 ^ length xs = pow-succ' 10 (length xs) in
    let same : (n + 1) * 10 ^ suc (length xs) ≡ (n + 1) * 10 * 10 ^ length xs = ap (λ (k : ℕ). (n + 1) * k) ten ∙ sym (mul_assoc (n + 1) 10 (10 ^ length xs)) in
    omega (arith, more, same, mul-le-mul_right (10 ^ length xs) less)

pub nine_digits : (xs : List ℕ) → All Digit xs → length xs ≤ 9 → number 0 xs < 1000000000
nine_digits xs h k =
    let less : 10 ^ length xs ≤ 10 ^ 9 = pow-le-pow_right (omega arith) k in
    let d : number 0 xs + 1 ≤ (0 + 1) * 10 ^ length xs = digits_room 0 xs h in
    omega arith

-- so many digits write a number below so many places' power of ten, told by what is left up to ten places
pub digits_bound : (xs : List ℕ) → All Digit xs → length xs ≤ 10 → (number 0 xs + 1) * 10 ^ (10 - length xs) ≤ 10000000000
digits_bound xs h k =
    let d : number 0 xs + 1 ≤ (0 + 1) * 10 ^ length xs = digits_room 0 xs h in
    let less : number 0 xs + 1 ≤ 10 ^ length xs = omega arith in
    let sum : length xs + (10 - length xs) ≡ 10 = omega arith in
    let all : 10 ^ length xs * 10 ^ (10 - length xs) ≡ 10 ^ 10 = sym (pow-add 10 (length xs) (10 - length xs)) ∙ ap (λ (m : ℕ). 10 ^ m) sum in
    omega (arith, mul-le-mul_right (10 ^ (10 - length xs)) less, all)
