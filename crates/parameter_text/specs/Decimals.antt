-- Decimals: an optional minus, one to four digits, and optionally a point with one to ten digits. A value of so
-- many places has only zeros beyond them, and is counted in the unit of its last place. Assumes nothing.
use Rattle.std.specs.Prelude.{◌≡◌, ℕ, ◌+◌, ◌-◌, ◌*◌, ◌^◌, ◌≤◌, Bool, true, false, cond, ◌&&◌, List, [], ◌∷◌, ◌++◌, length, take, drop, ℤ, pos, neg_ℤ, ◌≤ℤ◌, Ok, Err, Result, ◌==◌, int_le, nat_eq, nat_le}
use Rattle.std.specs.List.{prefix_len, AllByRecursion}
use Rattle.parameter_text.specs.declared.terms.Question.{Question}
use Rattle.parameter_text.specs.declared.terms.Question.TheVariants.{Form, Range}
use Rattle.parameter_text.specs.declared.terms.Places.{Places}
use Rattle.parameter_text.specs.declared.terms.Places.TheVariants.{Four, Eight, Ten}
use Rattle.parameter_text.specs.Digits.{Digit, digit, every, number}

abbrev pub place_count : Places → ℕ
place_count Four = 4
place_count Eight = 8
place_count Ten = 10

-- the size of a decimal, in units of its last place: places that are not written are 0
abbrev pub scaled : ℕ → List ℕ → List ℕ → ℕ
scaled places whole fraction = number 0 whole * 10 ^ places + number 0 (take places fraction) * 10 ^ (places - length fraction)

abbrev pub signed : Bool → ℕ → ℤ
signed true n = neg_ℤ (pos n)
signed false n = pos n

-- The relation: these bytes spell this value.

abbrev pub sign_text : Bool → List ℕ
sign_text true = 45 ∷ []
sign_text false = []

-- a fraction of no digits has no point
abbrev pub point_text : List ℕ → List ℕ
point_text [] = []
point_text (d ∷ ds) = 46 ∷ d ∷ ds

pub record Spelling (places : ℕ) (low high : ℤ) (bs : List ℕ) (v : ℤ) (minus : Bool) (whole fraction : List ℕ) : Type 0 where
  pub text : bs ≡ sign_text minus ++ (whole ++ point_text fraction)
  pub whole_digits : AllByRecursion Digit whole
  pub fraction_digits : AllByRecursion Digit fraction
  pub one : 1 ≤ length whole
  pub four : length whole ≤ 4
  pub ten : length fraction ≤ 10
  pub no_more_places : AllByRecursion (λ d. d ≡ 48) (drop places fraction)
  pub value : v ≡ signed minus (scaled places whole fraction)
  pub at_least : low ≤ℤ v
  pub at_most : v ≤ℤ high

-- these bytes spell the value v, of so many places, from low to high
abbrev pub Spells : ℕ → ℤ → ℤ → List ℕ → ℤ → Type 0
Spells places low high bs v = (minus : Bool) × (whole : List ℕ) × (fraction : List ℕ) × Spelling places low high bs v minus whole fraction

-- The judgement: the value, or the question that the cell fails.

abbrev pub minus_in : List ℕ → Bool
minus_in [] = false
minus_in (b ∷ bs) = b == 45

abbrev pub unsigned_in : List ℕ → List ℕ
unsigned_in [] = []
unsigned_in (b ∷ bs) = cond (b == 45) bs (b ∷ bs)

-- nothing, or a point and one to ten digits
abbrev pub pointed : List ℕ → Bool
pointed [] = true
pointed (b ∷ f) = b == 46 && (nat_le 1 (length f) && (nat_le (length f) 10 && every digit f))

abbrev pub formed : List ℕ → List ℕ → Bool
formed whole rest = nat_le 1 (length whole) && (nat_le (length whole) 4 && pointed rest)

abbrev pub ranged : ℕ → ℤ → ℤ → List ℕ → ℤ → Bool
ranged places low high fraction v = every (nat_eq 48) (drop places fraction) && (int_le low v && int_le v high)

abbrev pub valued : ℕ → ℤ → ℤ → List ℕ → ℤ → Result ℤ Question
valued places low high fraction v = cond (ranged places low high fraction v) (Ok v) (Err Range)

-- a cell in its parts: its sign, the digits of its whole part, and what follows them
abbrev pub judged : ℕ → ℤ → ℤ → Bool → List ℕ → List ℕ → Result ℤ Question
judged places low high minus whole rest = cond (formed whole rest) (valued places low high (drop 1 rest) (signed minus (scaled places whole (drop 1 rest)))) (Err Form)

abbrev pub plain : ℕ → ℤ → ℤ → Bool → List ℕ → Result ℤ Question
plain places low high minus bs = judged places low high minus (take (prefix_len digit bs) bs) (drop (prefix_len digit bs) bs)

abbrev pub decimal : ℕ → ℤ → ℤ → List ℕ → Result ℤ Question
decimal places low high bs = plain places low high (minus_in bs) (unsigned_in bs)

-- A cell passes exactly where it spells a value in range, with that value.
abbrev pub DecimalsPass : Type 0
DecimalsPass = (places : ℕ) (low high : ℤ) (bs : List ℕ) (v : ℤ) → (decimal places low high bs ≡ Ok v → Spells places low high bs v) × (Spells places low high bs v → decimal places low high bs ≡ Ok v)
