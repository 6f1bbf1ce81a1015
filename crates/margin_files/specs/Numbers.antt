-- The numbers of settings and journals. Assumes nothing.
use Rattle.std.specs.Prelude.{ℕ, ◌-◌, cond, ◌&&◌, List, length, min, ℤ, pos, negsuc, Some, None, Ok, Err, Option, Result, ◌==◌, nat_le, option_map, option_and_then, unsigned_abs, int_div, int_rem}
use Rattle.parameter_text.specs.Digits.{digit, every, number}
use Rattle.parameter_text.specs.Decimals.{decimal, signed, minus_in, unsigned_in}

abbrev pub digit_value : ℕ → Option ℕ
digit_value b = cond (digit b) (Some (b - 48)) None

-- the number that one to eighteen digits write, zeros in front allowed
abbrev pub whole_size : List ℕ → Option ℕ
whole_size ds = cond (nat_le 1 (length ds) && (nat_le (length ds) 18 && every digit ds)) (Some (number 0 ds)) None

-- a whole number: an optional minus and one to eighteen digits
unfoldable pub whole_number : List ℕ → Option ℤ
whole_number cell = option_map (signed (minus_in cell)) (whole_size (unsigned_in cell))

-- what was judged well
abbrev pub passed : {X E : Type 0} → Result X E → Option X
passed (Ok x) = Some x
passed (Err e) = None

-- a decimal in the parameter file's form with no digit but 0 beyond the fourth place, in ten-thousandths
unfoldable pub four_places : List ℕ → Option ℤ
four_places cell = passed (decimal 4 (negsuc 99999998) (pos 99999999) cell)

-- a number of hundreds
abbrev pub hundreds : ℤ → Option ℤ
hundreds z = cond (unsigned_abs (int_rem z (pos 100)) == 0) (Some (int_div z (pos 100))) None

-- a decimal in the same form with no digit but 0 beyond the second place, in hundredths
unfoldable pub two_places : List ℕ → Option ℤ
two_places cell = option_and_then hundreds (four_places cell)

-- a number as one of a type that begins at 0: what does not fit is told as the greatest number of the type
abbrev pub or_greatest : ℕ → ℤ → ℕ
or_greatest most (pos n) = min n most
or_greatest most (negsuc n) = most

-- of 32 bits, and of 64
abbrev pub in_u32 : ℤ → ℕ
in_u32 = or_greatest 4294967295

abbrev pub in_u64 : ℤ → ℕ
in_u64 = or_greatest 18446744073709551615

-- a rate in ten-thousandths
abbrev pub rate_of : List ℕ → Option ℕ
rate_of text = option_map in_u32 (four_places text)

-- digits, however many, as a number of 64 bits
abbrev pub count_of : List ℕ → Option ℕ
count_of text = cond (nat_le 1 (length text) && every digit text) (Some (min (number 0 text) 18446744073709551615)) None
