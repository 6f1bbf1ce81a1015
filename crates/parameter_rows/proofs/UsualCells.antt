-- Digits at a place of a text, and the return that they spell. Assumes nothing.
use Rattle.std.proofs.Common.{◌≡◌, ℕ, zero, suc, ◌+◌, ◌-◌, ◌*◌, ◌^◌, ◌<◌, ◌≤◌, Bool, true, false, eqb, List, [], ◌∷◌, ◌++◌, length, get_or, take, drop, pos, neg_ℤ, ◌≤ℤ◌, sym, refl, ap, ◌∙◌, subst, mul_assoc, add-mul, arith, pow-add}
use native.Mathlib.Nat.{pow-succ'}
use mir.Val.{bool_byte}
use Rattle.std.proofs.lemmas.Int.{ints}
use Rattle.std.proofs.lemmas.Bool.{eqb-true}
use Rattle.std.specs.List.{AllByRecursion as All}
use Rattle.std.proofs.lemmas.List.{take_more, take_all, drop_all, length-take-le, length-drop, drop_more}
use Rattle.std.proofs.ByRecursion.{All-push}
use Rattle.parameter_text.specs.Digits.{Digit, number}
use Rattle.parameter_text.specs.Decimals.{signed, sign_text, point_text}
use Rattle.parameter_text.proofs.DigitSteps.{room_step, small_whole}
use Rattle.parameter_rows.specs.Returns.{largest_return, SpellsReturn}
use Rattle.parameter_rows.specs.Reading.{Digits, Sized}

pub byte_at : (xs : List ℕ) (at b : ℕ) → at < length xs → get_or xs at 0 ≡ b → drop at xs ≡ b ∷ drop (at + 1) xs
byte_at xs at b h e = drop_more xs at 0 h ∙ ap (λ z. z ∷ drop (at + 1) xs) e

number_push : (n : ℕ) (xs : List ℕ) (b : ℕ) → number n (xs ++ b ∷ []) ≡ number n xs * 10 + (b - 48)
number_push n [] b = refl
number_push n (x ∷ xs) b = number_push (n * 10 + (x - 48)) xs b

-- one digit more
pub digits_more : (xs : List ℕ) (whole n k : ℕ) → k < length xs → k < 8 → 48 ≤ get_or xs k 0 → get_or xs k 0 ≤ 57 → Digits xs whole n k → Digits xs whole (n * 10 + (get_or xs k 0 - 48)) (k + 1)
digits_more xs whole n k h l a b d =
    let m : take (k + 1) xs ≡ take k xs ++ get_or xs k 0 ∷ [] = take_more xs k 0 h in
    let less : 8 - (k + 1) ≡ 8 - k - 1 = omega arith in
    record {
      few = omega arith;
      all = subst (All Digit) (sym m) (All-push Digit (take k xs) _ d.all (a, b));
      value = ap (λ x. x * 10 + (get_or xs k 0 - 48)) d.value ∙ sym (number_push whole (take k xs) _) ∙ ap (number whole) (sym m);
      small = rw less (room_step n (8 - k) (get_or xs k 0 - 48) (omega arith) (omega arith) d.small);
    }

-- one digit more keeps the number small
pub digits_small : (n k b : ℕ) → k < 8 → b ≤ 57 → (n + 1) * 10 ^ (8 - k) ≤ 1000000000 → n * 10 + (b - 48) < 1000000000
digits_small n k b l h s = small_whole _ _ (room_step n (8 - k) (b - 48) (omega arith) (omega arith) s)

pub digits_none : (text : List ℕ) (whole : ℕ) → whole ≤ 9 → Digits text whole whole 0
digits_none text whole h = record { few = omega arith; all = tt; value = refl; small = omega arith }

-- the table of units
pub units_at : (k : ℕ) → k ≤ 8 → get_or (100000000 ∷ 10000000 ∷ 1000000 ∷ 100000 ∷ 10000 ∷ 1000 ∷ 100 ∷ 10 ∷ 1 ∷ []) k 0 ≡ 10 ^ (8 - k)
units_at zero h = refl
units_at (suc zero) h = refl
units_at (suc (suc zero)) h = refl
units_at (suc (suc (suc zero))) h = refl
units_at (suc (suc (suc (suc zero)))) h = refl
units_at (suc (suc (suc (suc (suc zero))))) h = refl
units_at (suc (suc (suc (suc (suc (suc zero)))))) h = refl
units_at (suc (suc (suc (suc (suc (suc (suc zero))))))) h = refl
units_at (suc (suc (suc (suc (suc (suc (suc (suc zero)))))))) h = refl
units_at (suc (suc (suc (suc (suc (suc (suc (suc (suc k))))))))) h = absurd (omega arith)

number_on : (a : ℕ) (f : List ℕ) → number a f ≡ a * 10 ^ length f + number 0 f
number_on a [] = omega arith
number_on a (x ∷ f) =
    let p = 10 ^ length f in
    let d = x - 48 in
    let ten : 10 ^ suc (length f) ≡ 10 * p = pow-succ' 10 (length f) in
    let here : number (a * 10 + d) f ≡ (a * 10 + d) * p + number 0 f = number_on (a * 10 + d) f in
    let there : number (0 * 10 + d) f ≡ (0 * 10 + d) * p + number 0 f = number_on (0 * 10 + d) f in
    let zeros : 0 * 10 + d ≡ d = omega arith in
    let there2 : number (0 * 10 + d) f ≡ d * p + number 0 f = there ∙ ap (λ z. z * p + number 0 f) zeros in
    let wide : (a * 10 + d) * p ≡ a * (10 * p) + d * p = add-mul (a * 10) d p ∙ ap (λ z. z + d * p) (mul_assoc a 10 p) in
    let same : a * 10 ^ suc (length f) ≡ a * (10 * p) = ap (λ z. a * z) ten in
    omega (arith, here, there2, wide, same)

scaled_eight : (a : ℕ) (f : List ℕ) → length f ≤ 8 → number a f * 10 ^ (8 - length f) ≡ a * 100000000 + number 0 (take 8 f) * 10 ^ (8 - length f)
scaled_eight a f h =
    let k = length f in
    let u = 10 ^ (8 - k) in
    let eight : k + (8 - k) ≡ 8 = omega arith in
    let whole : 10 ^ k * u ≡ 100000000 = sym (pow-add 10 k (8 - k)) ∙ ap (λ z. 10 ^ z) eight in
    ap (λ z. z * u) (number_on a f) ∙ add-mul (a * 10 ^ k) (number 0 f) u ∙ ap (λ z. z + number 0 f * u) (mul_assoc a (10 ^ k) u ∙ ap (λ z. a * z) whole) ∙ ap (λ (z : List ℕ). a * 100000000 + number 0 z * u) (sym (take_all 8 f h))

point_some : (f : List ℕ) → 0 < length f → point_text f ≡ 46 ∷ f
point_some [] h = absurd (omega arith)
point_some (d ∷ f) h = refl

first : (xs : List ℕ) → 0 < length xs → xs ≡ get_or xs 0 0 ∷ drop 1 xs
first [] h = absurd (omega arith)
first (x ∷ xs) h = refl

-- a digit alone
pub sized_one : (xs : List ℕ) → 0 < length xs → 48 ≤ get_or xs 0 0 → get_or xs 0 0 ≤ 57 → Sized (take 1 xs) ((get_or xs 0 0 - 48) * 100000000)
sized_one xs h a b = (
  get_or xs 0 0 ∷ [],
  [],
  record {
    parts = ap (take 1) (first xs h);
    whole_digits = ((a, b), tt);
    fraction_digits = tt;
    one = refl;
    eight = omega arith;
    value = omega arith;
  },
)

-- a digit, a point and digits
pub sized_more : (xs : List ℕ) (n k : ℕ) → 2 + k ≤ length xs → 48 ≤ get_or xs 0 0 → get_or xs 0 0 ≤ 57 → get_or xs 1 0 ≡ 46 → 0 < k → Digits (drop 2 xs) (get_or xs 0 0 - 48) n k → Sized (take (2 + k) xs) (n * 10 ^ (8 - k))
sized_more xs n k h a b point some d =
    let x = get_or xs 0 0 in
    let f = take k (drop 2 xs) in
    let long : length f ≡ k = length-take-le k (drop 2 xs) (omega (arith, length-drop 2 xs)) in
    let two : 2 + k ≡ suc (suc k) = omega arith in
    let there : xs ≡ x ∷ 46 ∷ drop 2 xs = first xs (omega arith) ∙ ap (λ (l : List ℕ). x ∷ l) (byte_at xs 1 46 (omega arith) point) in
    let zeros : 0 * 10 + (x - 48) ≡ x - 48 = omega arith in (
      x ∷ [],
      f,
      record {
        parts = ap (λ m. take m xs) two ∙ ap (take (suc (suc k))) there ∙ ap (λ (l : List ℕ). x ∷ l) (sym (point_some f (omega arith)));
        whole_digits = ((a, b), tt);
        fraction_digits = d.all;
        one = refl;
        eight = omega (arith, d.few);
        value = ap (λ z. z * 10 ^ (8 - k)) d.value ∙ ap (λ z. number (x - 48) f * 10 ^ (8 - z)) (sym long) ∙ scaled_eight (x - 48) f (omega (arith, d.few)) ∙ ap (λ z. z * 100000000 + number 0 (take 8 f) * 10 ^ (8 - length f)) (sym zeros);
      },
    )

-- with its sign

from_least : (m : Bool) (n : ℕ) → n ≤ largest_return → neg_ℤ (pos largest_return) ≤ℤ signed m n
from_least true n h = omega (arith, ints)
from_least false n h = omega (arith, ints)

to_most : (m : Bool) (n : ℕ) → n ≤ largest_return → signed m n ≤ℤ pos largest_return
to_most true n h = omega (arith, ints)
to_most false n h = omega (arith, ints)

spelling : (m : Bool) (text bs : List ℕ) (n : ℕ) → n ≤ largest_return → bs ≡ sign_text m ++ text → Sized text n → SpellsReturn bs (signed m n)
spelling m text bs n h e (w, f, u) =
    let none : drop 8 f ≡ [] = drop_all 8 f u.eight in (
      m,
      w,
      f,
      record {
        text = e ∙ ap (λ (l : List ℕ). sign_text m ++ l) u.parts;
        whole_digits = u.whole_digits;
        fraction_digits = u.fraction_digits;
        one = omega (arith, u.one);
        four = omega (arith, u.one);
        ten = omega (arith, u.eight);
        no_more_places = subst (All (λ d. d ≡ 48)) (sym none) tt;
        value = ap (signed m) u.value;
        at_least = from_least m n h;
        at_most = to_most m n h;
      },
    )

-- the sign is one byte, or none
pub spells_signed : (xs : List ℕ) (length' n : ℕ) (m : Bool) → eqb (get_or xs 0 0) 45 ≡ m → 0 < length xs → n ≤ largest_return → Sized (take length' (drop (bool_byte m) xs)) n → SpellsReturn (take (bool_byte m + length') xs) (signed m n)
spells_signed xs l n true e k h s =
    let more : 1 + l ≡ suc l = omega arith in
    let there : xs ≡ 45 ∷ drop 1 xs = byte_at xs 0 45 k (eqb-true _ 45 e) in
    spelling true (take l (drop 1 xs)) _ n h (ap (λ z. take z xs) more ∙ ap (take (suc l)) there) s
spells_signed xs l n false e k h s =
    let none : 0 + l ≡ l = omega arith in
    spelling false (take l xs) _ n h (ap (λ z. take z xs) none) s

pub sign_small : (m : Bool) → bool_byte m ≤ 1
sign_small true = omega arith
sign_small false = omega arith
