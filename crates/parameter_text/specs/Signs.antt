-- What a sign is, and the farthest numbers of 64 bits. Assumes nothing.
use Rattle.std.specs.Prelude.{◌-◌, ◌^◌, Bool, true, false, ℤ, pos, neg_ℤ}
use Rattle.parameter_text.specs.declared.terms.Sign.{Sign}
use Rattle.parameter_text.specs.declared.terms.Sign.TheVariants.{Plus, Minus}

abbrev pub is_minus : Sign → Bool
is_minus Plus = false
is_minus Minus = true

-- the greatest number of 64 bits, and the least
abbrev pub farthest : Sign → ℤ
farthest Plus = pos (2 ^ 63 - 1)
farthest Minus = neg_ℤ (pos (2 ^ 63))
