-- What an answer tells of the judgements that it was put together from. Assumes nothing.
use Rattle.std.proofs.Common.{◌≡◌, ℕ, Bool, true, false, cond, Ok, Err, Result, refl, ap}
use Rattle.parameter_text.specs.declared.terms.Question.{Question}
use Rattle.parameter_text.specs.Questions.{both, and_then, seen_as}
use Rattle.parameter_text.proofs.DigitLaws.{ok_not_err, ok_same}
use Rattle.parameter_heading.specs.Lines.{fault_at}
use Rattle.file_rules.specs.Judged.{row_at}

pub both_ok : {X Y Z : Type 0} (f : X → Y → Z) (r : Result X Question) (s : Result Y Question) (z : Z) → both f r s ≡ Ok z → (x : X) × (y : Y) × (r ≡ Ok x) × (s ≡ Ok y) × (f x y ≡ z)
both_ok f (Ok x) (Ok y) z h = (x, y, refl, refl, ok_same (f x y) z h)
both_ok f (Ok x) (Err q) z h = absurd (ok_not_err z q h)
both_ok f (Err q) (Ok y) z h = absurd (ok_not_err z q h)
both_ok f (Err p) (Err q) z h = absurd (ok_not_err z _ h)

pub then_ok : {X Y E : Type 0} (r : Result X E) (f : X → Result Y E) (y : Y) → and_then r f ≡ Ok y → (x : X) × (r ≡ Ok x) × (f x ≡ Ok y)
then_ok (Ok x) f y h = (x, refl, h)
then_ok (Err e) f y h = absurd (ok_not_err y e h)

pub as_ok : {X Y E : Type 0} (f : X → Y) (r : Result X E) (y : Y) → seen_as f r ≡ Ok y → (x : X) × (r ≡ Ok x) × (f x ≡ y)
as_ok f (Ok x) y h = (x, refl, ok_same (f x) y h)
as_ok f (Err e) y h = absurd (ok_not_err y e h)

pub at_ok : {X : Type 0} (k : ℕ) (r : Result X Question) (x : X) → row_at k r ≡ Ok x → r ≡ Ok x
at_ok k (Ok y) x h = ap Ok (ok_same y x h)
at_ok k (Err q) x h = absurd (ok_not_err x (fault_at k q) h)

-- a test that must fail
pub unless_ok : {X E : Type 0} (b : Bool) (e : E) (x y : X) → cond b (Err e) (Ok x) ≡ Ok y → (b ≡ false) × (x ≡ y)
unless_ok true e x y h = absurd (ok_not_err y e h)
unless_ok false e x y h = (refl, ok_same x y h)
