-- What a source means: its parameters, and for each stock its returns in either set of scenarios, its flat rate and
-- its entitlement of each type, where it has them. Assumes nothing.
use Rattle.std.specs.Prelude.{ℕ, Bool, true, false, cond, List, ◌++◌, length, drop, ℤ, is_some, Some, None, Ok, Err, Option, Result, nat_lt}
use Rattle.return_source.specs.declared.terms.Parameters.{Parameters}
use Rattle.return_source.specs.declared.terms.Scenarios.{Scenarios}
use Rattle.return_source.specs.declared.terms.ScenarioSet.{ScenarioSet}
use Rattle.return_source.specs.declared.terms.ScenarioSet.TheVariants.{Historical, Stress}
use Rattle.return_source.specs.declared.terms.EntitlementType.{EntitlementType}
use Rattle.return_source.specs.declared.terms.Entitlement.{Entitlement}
use Rattle.return_source.specs.declared.terms.RowRefusal.{RowRefusal}
use Rattle.return_source.specs.declared.terms.RowRefusal.TheVariants.{NoRow, ShortSheet}
use Rattle.return_source.specs.declared.terms.Tier.{Tier}
use Rattle.return_source.specs.declared.terms.Tier.TheVariants.{Portfolio, Flat}

pub record Meaning : Type 0 where
  pub parameters : Parameters
  pub returns : ScenarioSet → ℕ → Option (List ℤ)
  pub rate : ℕ → Option ℕ
  pub entitlement : EntitlementType → ℕ → Option Entitlement

-- a set of scenarios by its name
abbrev pub scenarios_of_set : Parameters → ScenarioSet → Scenarios
scenarios_of_set p Historical = p.historical
scenarios_of_set p Stress = p.stress

-- the tier by which rows a stock has: both return rows, a flat rate, or neither
abbrev pub tier_by : Bool → Bool → Bool → Option Tier
tier_by true true f = Some Portfolio
tier_by true false true = Some Flat
tier_by true false false = None
tier_by false h true = Some Flat
tier_by false h false = None

abbrev pub tier_of : Meaning → ℕ → Option Tier
tier_of m s = tier_by (is_some (m.returns Historical s)) (is_some (m.returns Stress s)) (is_some (m.rate s))

-- the price of an entitlement, and the pair of its short and long percentage
abbrev pub numbers_of : Entitlement → ℕ × (ℕ × ℕ)
numbers_of e = (e.price, (e.short, e.long))

-- what writing a row answers, at a sheet of n places: how many returns there are, or why none is written
abbrev pub row_answer : Option (List ℤ) → ℕ → Result ℕ RowRefusal
row_answer None n = Err NoRow
row_answer (Some xs) n = cond (nat_lt n (length xs)) (Err ShortSheet) (Ok (length xs))

-- what a sheet holds after the writing of a row: the row in front and the rest as it was, or all as it was
abbrev pub row_sheet : Option (List ℤ) → List ℤ → List ℤ
row_sheet None sheet = sheet
row_sheet (Some xs) sheet = cond (nat_lt (length sheet) (length xs)) sheet (xs ++ drop (length xs) sheet)

-- an instrument can be charged: a stock by its tier, or an entitlement of a type
abbrev pub covered : Meaning → ℕ → Option EntitlementType → Bool
covered m s None = is_some (tier_of m s)
covered m s (Some t) = is_some (m.entitlement t s)
