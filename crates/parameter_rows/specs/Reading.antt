-- What the reader of usual rows finds at a place of the text. Assumes nothing.
use Rattle.std.specs.Prelude.{◌≡◌, ℕ, ◌+◌, ◌-◌, ◌*◌, ◌^◌, ◌≤◌, List, [], ◌∷◌, ◌++◌, length, take, replicate, ℤ}
use Rattle.std.specs.List.{AllByRecursion}
use Rattle.parameter_text.specs.Digits.{Digit, number}
use Rattle.parameter_text.specs.Decimals.{scaled, point_text}
use Rattle.parameter_text.specs.Cuts.{Starts}
use Rattle.parameter_rows.specs.Returns.{SpellReturns}

-- k digits in front, at most eight, and the number n that they write on from one digit
pub record Digits (text : List ℕ) (whole n k : ℕ) : Type 0 where
  pub few : k ≤ 8
  pub all : AllByRecursion Digit (take k text)
  pub value : n ≡ number whole (take k text)
  pub small : (n + 1) * 10 ^ (8 - k) ≤ 1000000000

-- one digit, and perhaps a point and one to eight digits: the size n, in hundred-millionths
pub record Unsigned (text : List ℕ) (n : ℕ) (whole fraction : List ℕ) : Type 0 where
  pub parts : text ≡ whole ++ point_text fraction
  pub whole_digits : AllByRecursion Digit whole
  pub fraction_digits : AllByRecursion Digit fraction
  pub one : length whole ≡ 1
  pub eight : length fraction ≤ 8
  pub value : n ≡ scaled 8 whole fraction

-- the size n of a text without a sign
abbrev pub Sized : List ℕ → ℕ → Type 0
Sized text n = (whole : List ℕ) × (fraction : List ℕ) × Unsigned text n whole fraction

-- commas alone, and then the line's end
abbrev pub Ends : List ℕ → List ℕ → Type 0
Ends text rest = (k : ℕ) × Starts text (replicate k 44) rest

-- cells with a comma after each
abbrev pub followed : List (List ℕ) → List ℕ
followed [] = []
followed (c ∷ cs) = c ++ 44 ∷ followed cs

-- the text up to what is left spells these returns, a comma after each
abbrev pub Followed : List ℕ → List ℕ → List ℤ → Type 0
Followed text rest vs = (cs : List (List ℕ)) × SpellReturns cs vs × (text ≡ followed cs ++ rest)
