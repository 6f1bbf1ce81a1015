-- A count, digit by digit, that stays at the greatest number of 64 bits. Assumes nothing.
use Rattle.std.proofs.Common.{◌≡◌, ℕ, ◌+◌, ◌-◌, ◌*◌, ◌<◌, ◌≤◌, true, false, List, [], ◌∷◌, length, get_or, drop, min, Some, None, sym, refl, ap, ◌∙◌, ⊎_elim, arith}
use Rattle.std.proofs.lemmas.List.{at_drop_more, at_drop_all}
use Rattle.std.proofs.lemmas.Bool.{cases_lt}
use Rattle.std.proofs.lemmas.Bool.Decides.{nat_tests}
use Rattle.parameter_text.specs.Digits.{digit, every, number}
use Rattle.parameter_text.proofs.DigitSteps.{every_more, every_not, every_end}
use Rattle.margin_files.specs.Numbers.{digit_value, count_of}
use Rattle.margin_files.proofs.NumberSteps.{some_digit, no_digit}

-- the greatest number of 64 bits
abbrev pub greatest : ℕ
greatest = 18446744073709551615

-- more digits never write a smaller number
number_grows : (n : ℕ) (ds : List ℕ) → n ≤ number n ds
number_grows n [] = omega arith
number_grows n (d ∷ ds) = omega (arith, number_grows (n * 10 + (d - 48)) ds)

stays : (n : ℕ) (ds : List ℕ) → greatest ≤ n → min (number n ds) greatest ≡ greatest
stays n ds h = omega (arith, number_grows n ds)

-- a number cut at the greatest one leads on to the same count
cut_leads : (n m : ℕ) (ds : List ℕ) → m ≡ min n greatest → min (number m ds) greatest ≡ min (number n ds) greatest
cut_leads n m ds e =
    ⊎_elim
    (λ (h : n < greatest). let same : m ≡ n = omega arith in rw same refl)
    (λ (h : greatest ≤ n). stays m ds (omega arith) ∙ sym (stays n ds h))
    (cases_lt n greatest)

-- the digits read so far, and their count
pub record CountedTo (xs : List ℕ) (i n : ℕ) : Type 0 where
  pub digits : every digit (drop i xs) ≡ every digit xs
  pub value : min (number n (drop i xs)) greatest ≡ min (number 0 xs) greatest
  pub fits : n ≤ greatest

pub counted_to_none : (xs : List ℕ) → CountedTo xs 0 0
counted_to_none xs = record { digits = refl; value = refl; fits = omega arith }

module _ (xs : List ℕ) (i n : ℕ) (h : i < length xs) (s : CountedTo xs i n) where
  pub counted_to_more : (d m : ℕ) → digit_value (get_or xs i 0) ≡ Some d → m ≡ min (n * 10 + d) greatest → CountedTo xs (i + 1) m
  counted_to_more d m e is =
      let found = some_digit (get_or xs i 0) d e in
      let next : min (number (n * 10 + d) (drop (i + 1) xs)) greatest ≡ min (number 0 xs) greatest =
      ap (λ (k : ℕ). min (number (n * 10 + k) (drop (i + 1) xs)) greatest) found.1 ∙ ap (λ (k : ℕ). min k greatest) (sym (at_drop_more (number n) xs i 0 h)) ∙ s.value in
      record {
        digits = sym (every_more digit xs i h found.0) ∙ s.digits;
        value = cut_leads (n * 10 + d) m (drop (i + 1) xs) is ∙ next;
        fits = omega (arith, is);
      }

  pub counted_to_not : digit_value (get_or xs i 0) ≡ None → None ≡ count_of xs
  counted_to_not e =
      let no : every digit xs ≡ false = sym s.digits ∙ every_not digit xs i h (no_digit (get_or xs i 0) e) in
      grind (arith, nat_tests, no)

pub counted_to_all : (xs : List ℕ) (i n : ℕ) → 1 ≤ length xs → length xs ≤ i → CountedTo xs i n → Some n ≡ count_of xs
counted_to_all xs i n some end s =
    let all : every digit xs ≡ true = sym s.digits ∙ every_end digit xs i end in
    let value : n ≡ min (number 0 xs) greatest = (let cut : min n greatest ≡ n = omega (arith, s.fits) in sym cut ∙ ap (λ (k : ℕ). min k greatest) (sym (at_drop_all (number n) xs i end)) ∙ s.value) in
    grind (arith, nat_tests, all, value)
