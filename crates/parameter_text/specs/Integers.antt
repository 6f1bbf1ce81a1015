-- Integers: one to nine digits, zeros in front allowed. A stock starts with no zero. Assumes nothing.
use Rattle.std.specs.Prelude.{◌≡◌, ℕ, ◌≤◌, Bool, false, cond, ◌&&◌, List, [], ◌∷◌, length, Some, None, Ok, Err, Option, Result, ◌==◌, nat_le, slice_index_or}
use Rattle.std.specs.List.{AllByRecursion}
use Rattle.parameter_text.specs.declared.terms.Question.{Question}
use Rattle.parameter_text.specs.declared.terms.Question.TheVariants.{Form, Range}
use Rattle.parameter_text.specs.Digits.{Digit, digit, every, number}

-- the largest stock number
abbrev pub last_stock : ℕ
last_stock = 99999

-- The relation: these bytes write the number n, from low to high.
pub record Writes (low high : ℕ) (bs : List ℕ) (n : ℕ) : Type 0 where
  pub digits : AllByRecursion Digit bs
  pub one : 1 ≤ length bs
  pub nine : length bs ≤ 9
  pub value : n ≡ number 0 bs
  pub at_least : low ≤ n
  pub at_most : n ≤ high

pub record WritesStock (bs : List ℕ) (n : ℕ) : Type 0 where
  pub number_of : Writes 1 last_stock bs n
  pub no_zero : slice_index_or bs 0 0 ≡ 48 → ⊥

-- The judgement: the number, or the question that the cell fails.

abbrev pub whole_formed : List ℕ → Bool
whole_formed bs = nat_le 1 (length bs) && (nat_le (length bs) 9 && every digit bs)

-- the number that a cell writes, if it has the form of one
abbrev pub whole_of : List ℕ → Option ℕ
whole_of bs = cond (whole_formed bs) (Some (number 0 bs)) None

abbrev pub bounded : ℕ → ℕ → ℕ → Result ℕ Question
bounded low high n = cond (nat_le low n && nat_le n high) (Ok n) (Err Range)

abbrev pub in_bounds : ℕ → ℕ → Option ℕ → Result ℕ Question
in_bounds low high None = Err Form
in_bounds low high (Some n) = bounded low high n

abbrev pub integer : ℕ → ℕ → List ℕ → Result ℕ Question
integer low high bs = in_bounds low high (whole_of bs)

abbrev pub zero_first : List ℕ → Bool
zero_first [] = false
zero_first (b ∷ bs) = b == 48

-- the number that a stock's cell writes, if it has the form of one
abbrev pub stock_of : List ℕ → Option ℕ
stock_of bs = cond (zero_first bs) None (whole_of bs)

abbrev pub stock_cell : List ℕ → Result ℕ Question
stock_cell bs = in_bounds 1 last_stock (stock_of bs)

-- A cell passes exactly where it writes a number in range, with that number.
abbrev pub IntegersPass : Type 0
IntegersPass = (low high : ℕ) (bs : List ℕ) (n : ℕ) → (integer low high bs ≡ Ok n → Writes low high bs n) × (Writes low high bs n → integer low high bs ≡ Ok n)

abbrev pub StocksPass : Type 0
StocksPass = (bs : List ℕ) (n : ℕ) → (stock_cell bs ≡ Ok n → WritesStock bs n) × (WritesStock bs n → stock_cell bs ≡ Ok n)
