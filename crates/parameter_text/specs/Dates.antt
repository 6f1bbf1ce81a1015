-- Dates: day/month/year in one or two, one or two, and four digits, a day of the calendar from 2000 to 2099.
-- Assumes nothing.
use Rattle.std.specs.Prelude.{◌≡◌, ℕ, ◌%◌, ◌≤◌, Bool, true, cond, not, ◌&&◌, ◌||◌, List, [], ◌∷◌, ◌++◌, length, Some, None, Ok, Err, Option, Result, ◌==◌, nat_le}
use Rattle.std.specs.List.{AllByRecursion}
use Rattle.parameter_text.specs.declared.terms.Question.{Question}
use Rattle.parameter_text.specs.declared.terms.Question.TheVariants.{Form, Range}
use Rattle.parameter_text.specs.declared.terms.Date.{Date}
use Rattle.parameter_text.specs.Digits.{Digit, digit, every, number}
use Rattle.parameter_text.specs.Cuts.{split}

abbrev pub leap : ℕ → Bool
leap year = year % 4 == 0 && (not (year % 100 == 0) || year % 400 == 0)

abbrev pub short_month : ℕ → Bool
short_month month = month == 4 || (month == 6 || (month == 9 || month == 11))

abbrev pub days_in : ℕ → ℕ → ℕ
days_in month year = cond (month == 2) (cond (leap year) 29 28) (cond (short_month month) 30 31)

-- a day of the calendar from 2000 to 2099
abbrev pub real : Date → Bool
real d = (nat_le 2000 d.year && nat_le d.year 2099) && ((nat_le 1 d.month && nat_le d.month 12) && (nat_le 1 d.day && nat_le d.day (days_in d.month d.year)))

-- The relation: these bytes write the day d.
pub record Dating (bs : List ℕ) (d : Date) (day month year : List ℕ) : Type 0 where
  pub text : bs ≡ day ++ 47 ∷ (month ++ 47 ∷ year)
  pub day_digits : AllByRecursion Digit day
  pub month_digits : AllByRecursion Digit month
  pub year_digits : AllByRecursion Digit year
  pub day_one : 1 ≤ length day
  pub day_two : length day ≤ 2
  pub month_one : 1 ≤ length month
  pub month_two : length month ≤ 2
  pub year_four : length year ≡ 4
  pub value : d ≡ record { day = number 0 day; month = number 0 month; year = number 0 year }
  pub is_real : real d ≡ true

abbrev pub WritesDate : List ℕ → Date → Type 0
WritesDate bs d = (day : List ℕ) × (month : List ℕ) × (year : List ℕ) × Dating bs d day month year

-- The judgement: the day, or the question that the cell fails.

abbrev pub sized : ℕ → ℕ → List ℕ → Bool
sized low high bs = nat_le low (length bs) && (nat_le (length bs) high && every digit bs)

abbrev pub written_date : List ℕ → List ℕ → List ℕ → Date
written_date day month year = record { day = number 0 day; month = number 0 month; year = number 0 year }

-- a day in its three parts, if each has its form
abbrev pub written_day : List ℕ → List ℕ → List ℕ → Option Date
written_day day month year = cond (sized 1 2 day && (sized 1 2 month && sized 4 4 year)) (Some (written_date day month year)) None

abbrev pub three_parts : List (List ℕ) → Option Date
three_parts [] = None
three_parts (d ∷ []) = None
three_parts (d ∷ m ∷ []) = None
three_parts (d ∷ m ∷ y ∷ []) = written_day d m y
three_parts (d ∷ m ∷ y ∷ z ∷ zs) = None

-- the day that a cell writes, if it has the form of one
abbrev pub date_of : List ℕ → Option Date
date_of bs = three_parts (split 47 bs)

abbrev pub dated : Option Date → Result Date Question
dated None = Err Form
dated (Some d) = cond (real d) (Ok d) (Err Range)

abbrev pub date_cell : List ℕ → Result Date Question
date_cell bs = dated (date_of bs)

-- A cell passes exactly where it writes a day, with that day.
abbrev pub DatesPass : Type 0
DatesPass = (bs : List ℕ) (d : Date) → (date_cell bs ≡ Ok d → WritesDate bs d) × (WritesDate bs d → date_cell bs ≡ Ok d)
