-- Which thirteen lines lay down which heading: twelve that give a name its value, and the titles of the columns.
-- The law says that the judgement and this relation agree on every file. Assumes nothing.
use Rattle.std.specs.Prelude.{◌≡◌, ℕ, ◌+◌, ◌-◌, ◌*◌, ◌<◌, ◌≤◌, max, List, [], ◌∷◌, ◌++◌, length, pos, Ok, ◌≢◌, slice_index_or}
use Rattle.std.specs.List.{AllByRecursion}
use Rattle.parameter_text.specs.Cuts.{spliced}
use Rattle.parameter_text.specs.Dates.{WritesDate}
use Rattle.parameter_text.specs.Decimals.{Spells}
use Rattle.parameter_text.specs.Integers.{Writes, WritesStock}
use Rattle.return_source.specs.Lawful.{LawfulParameters}
use Rattle.parameter_heading.specs.declared.terms.Heading.{Heading}
use Rattle.parameter_heading.specs.Names.{valuation_date_name, historical_weight_name, stress_weight_name, historical_count_name, stress_count_name, stv_count_name, historical_level_name, stress_level_name, historical_measure_name, stress_measure_name, rounding, holiday_factor_name, instrument_id_name, field_type_name}
use Rattle.parameter_heading.specs.Headings.{tail_count, heading}

-- no byte of a value is a comma
abbrev pub NoComma : List ℕ → Type 0
NoComma value = AllByRecursion (λ b. b ≢ 44) value

-- the line is the name, a comma and one value, of which P holds
abbrev pub Gives : List ℕ → List ℕ → (List ℕ → Type 0) → Type 0
Gives line name P = (value : List ℕ) × (line ≡ name ++ 44 ∷ value) × NoComma value × P value

-- a value spells a share of 1, so many ten-thousandths
abbrev pub SpellsShare : ℕ → List ℕ → Type 0
SpellsShare n value = Spells 4 (pos 0) (pos 10000) value (pos n)

-- a value spells a factor from 0 to 1, so many ten-billionths
abbrev pub SpellsFactor : ℕ → List ℕ → Type 0
SpellsFactor n value = Spells 10 (pos 0) (pos 10000000000) value (pos n)

-- the tail is the least number of scenarios that is no less than what the level leaves of them, and 1 to 100
pub record Tail (level count tail : ℕ) : Type 0 where
  pub enough : (10000 - level) * count ≤ tail * 10000
  pub least : tail * 10000 < (10000 - level) * count + 10000
  pub some : 1 ≤ tail
  pub few : tail ≤ 100

-- the titles are two names and the numbers from 1 to n, none with a zero in front
pub record Titles (line : List ℕ) (n : ℕ) (numbers : List (List ℕ)) : Type 0 where
  pub text : line ≡ spliced 44 (instrument_id_name ∷ field_type_name ∷ numbers)
  pub many : length numbers ≡ n
  pub each : (i : ℕ) → i < n → WritesStock (slice_index_or numbers i []) (i + 1)

-- the first thirteen lines lay down this heading, and these are left after them
pub record LaysHeading (ls : List (List ℕ)) (h : Heading) (rest : List (List ℕ)) : Type 0 where
  pub l1 : List ℕ
  pub l2 : List ℕ
  pub l3 : List ℕ
  pub l4 : List ℕ
  pub l5 : List ℕ
  pub l6 : List ℕ
  pub l7 : List ℕ
  pub l8 : List ℕ
  pub l9 : List ℕ
  pub l10 : List ℕ
  pub l11 : List ℕ
  pub l12 : List ℕ
  pub l13 : List ℕ
  pub text : ls ≡ l1 ∷ l2 ∷ l3 ∷ l4 ∷ l5 ∷ l6 ∷ l7 ∷ l8 ∷ l9 ∷ l10 ∷ l11 ∷ l12 ∷ l13 ∷ rest
  pub line_1 : Gives l1 valuation_date_name (λ v. WritesDate v h.date)
  pub line_2 : Gives l2 historical_weight_name (SpellsShare h.parameters.historical.weight.ten_thousandths)
  pub line_3 : Gives l3 stress_weight_name (SpellsShare h.parameters.stress.weight.ten_thousandths)
  pub whole : h.parameters.historical.weight.ten_thousandths + h.parameters.stress.weight.ten_thousandths ≡ 10000
  pub line_4 : Gives l4 historical_count_name (λ v. Writes 1 4000 v h.parameters.historical.count)
  pub line_5 : Gives l5 stress_count_name (λ v. Writes 1 4000 v h.parameters.stress.count)
  pub line_6 : Gives l6 stv_count_name (λ v. (n : ℕ) × Writes 0 100000 v n)
  pub line_7 : Gives l7 historical_level_name (SpellsShare h.historical_level.ten_thousandths)
  pub line_8 : Gives l8 stress_level_name (SpellsShare h.stress_level.ten_thousandths)
  pub historical_tail : Tail h.historical_level.ten_thousandths h.parameters.historical.count h.parameters.historical.tail
  pub stress_tail : Tail h.stress_level.ten_thousandths h.parameters.stress.count h.parameters.stress.tail
  pub line_9 : Gives l9 historical_measure_name (λ v. Writes 4 4 v 4)
  pub line_10 : Gives l10 stress_measure_name (λ v. Writes 4 4 v 4)
  pub line_11 : Gives l11 rounding (λ v. Writes 1 1000000 v h.parameters.step)
  pub line_12 : Gives l12 holiday_factor_name (SpellsFactor h.parameters.holiday_factor)
  pub line_13 : (numbers : List (List ℕ)) × Titles l13 (max h.parameters.historical.count h.parameters.stress.count) numbers

-- A heading is found exactly where the lines lay it down.
abbrev pub HeadingsPass : Type 0
HeadingsPass = (ls rest : List (List ℕ)) (h : Heading) → (heading ls ≡ Ok (h, rest) → LaysHeading ls h rest) × (LaysHeading ls h rest → heading ls ≡ Ok (h, rest))

-- A level of 0.994 leaves 6 of 1,000 scenarios, and one of 0.98 leaves 21 of 1,018, not 20.
abbrev pub TailFigures : Type 0
TailFigures = (tail_count 9940 1000 ≡ 6) × (tail_count 9800 1018 ≡ 21)

-- what is known of a heading: its parameters are ones that a return source can have
abbrev pub Sound : Heading → Type 0
Sound h = LawfulParameters h.parameters
