-- The number of the refusal of a rate. Assumes nothing.
use Rattle.std.specs.Prelude.{ℕ}
use Rattle.fallback_source.specs.declared.terms.RateRefusal.{RateRefusal}
use Rattle.fallback_source.specs.declared.terms.RateRefusal.TheVariants.{Rate}

-- the number that a refusal carries; it carries nothing more
abbrev pub refusal_number : RateRefusal → ℕ
refusal_number Rate = 9
