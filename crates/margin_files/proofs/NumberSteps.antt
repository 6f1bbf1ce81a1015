-- A whole number, digit by digit. Assumes nothing.
use Rattle.std.proofs.Common.{◌≡◌, ℕ, ◌+◌, ◌-◌, ◌*◌, ◌^◌, ◌<◌, ◌≤◌, true, false, cond, List, length, get_or, drop, Some, None, Option, sym, refl, ap, ◌∙◌, arith, lit≤}
use Rattle.std.proofs.lemmas.List.{at_drop_more, at_drop_all}
use Rattle.std.proofs.lemmas.Bool.Decides.{nat_tests}
use Rattle.parameter_text.specs.Digits.{digit, every, number}
use Rattle.parameter_text.proofs.DigitSteps.{every_more, every_not, every_end, small_whole, room_step}
use Rattle.margin_files.specs.Numbers.{digit_value, whole_size}

-- the digits read so far, and the number that they write
pub record SoFar (xs : List ℕ) (i n : ℕ) : Type 0 where
  pub digits : every digit (drop i xs) ≡ every digit xs
  pub value : number n (drop i xs) ≡ number 0 xs
  pub small : (n + 1) * 10 ^ (18 - i) ≤ 1000000000000000000

pub so_far_none : (xs : List ℕ) → SoFar xs 0 0
so_far_none xs = record { digits = refl; value = refl; small = lit≤ tt }

pub some_digit : (b d : ℕ) → digit_value b ≡ Some d → (digit b ≡ true) × (d ≡ b - 48)
some_digit b d e =
    elim (digit b) as (λ t. digit b ≡ t → cond t (Some (b - 48)) None ≡ Some d → (digit b ≡ true) × (d ≡ b - 48)) [
      | true ↦ λ h k. (h, (cc))
      | false ↦ λ h k. absurd (let z : ◌≡◌ {A = Option ℕ} None (Some d) = k in cc)
    ]
    refl e

pub no_digit : (b : ℕ) → digit_value b ≡ None → digit b ≡ false
no_digit b e =
    elim (digit b) as (λ t. digit b ≡ t → cond t (Some (b - 48)) None ≡ None → digit b ≡ false) [
      | true ↦ λ h k. absurd (let z : ◌≡◌ {A = Option ℕ} (Some (b - 48)) None = k in cc)
      | false ↦ λ h k. h
    ]
    refl e

module _ (xs : List ℕ) (i n : ℕ) (few : length xs ≤ 18) (h : i < length xs) (s : SoFar xs i n) where
  pub so_far_more : (d : ℕ) → d ≤ 9 → digit_value (get_or xs i 0) ≡ Some d → SoFar xs (i + 1) (n * 10 + d)
  so_far_more d nine e =
      let is = some_digit (get_or xs i 0) d e in
      let less : 18 - (i + 1) ≡ 18 - i - 1 = omega arith in
      let step : number (n * 10 + (get_or xs i 0 - 48)) (drop (i + 1) xs) ≡ number 0 xs = sym (at_drop_more (number n) xs i 0 h) ∙ s.value in
      record {
        digits = sym (every_more digit xs i h is.0) ∙ s.digits;
        value = ap (λ (k : ℕ). number (n * 10 + k) (drop (i + 1) xs)) is.1 ∙ step;
        small = rw less (room_step n (18 - i) d (omega arith) nine s.small);
      }

  pub so_far_fits : n * 10 + 9 < 10000000000000000000
  so_far_fits = let w = small_whole n (18 - i) s.small in omega (arith, w)

  pub so_far_not : digit_value (get_or xs i 0) ≡ None → None ≡ whole_size xs
  so_far_not e =
      let no : every digit xs ≡ false = sym s.digits ∙ every_not digit xs i h (no_digit (get_or xs i 0) e) in
      grind (arith, nat_tests, no)

pub so_far_all : (xs : List ℕ) (i n : ℕ) → 1 ≤ length xs → length xs ≤ 18 → length xs ≤ i → SoFar xs i n → Some n ≡ whole_size xs
so_far_all xs i n some few end s =
    let all : every digit xs ≡ true = sym s.digits ∙ every_end digit xs i end in
    let value : n ≡ number 0 xs = sym (at_drop_all (number n) xs i end) ∙ s.value in
    grind (arith, nat_tests, all, value)

pub so_far_bound : (xs : List ℕ) (i n : ℕ) → SoFar xs i n → n + 1 ≤ 10 ^ 18
so_far_bound xs i n s = let w = small_whole n (18 - i) s.small in omega (arith, w)

pub not_sized : (xs : List ℕ) → length xs ≡ 0 → None ≡ whole_size xs
not_sized xs e = grind (arith, nat_tests)

pub too_long : (xs : List ℕ) → 18 < length xs → None ≡ whole_size xs
too_long xs e = grind (arith, nat_tests)
