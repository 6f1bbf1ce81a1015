-- What a source owes: every number is in its range, a tail is not longer than its set of scenarios, the weights make the
-- whole, a row has a return for each scenario, and a stock has returns in both sets or in none, and with them no flat
-- rate. A meaning gives a stock at most one row of each kind, since it is a function of the stock. Assumes nothing.
use Rattle.std.specs.Prelude.{◌≡◌, ℕ, ◌+◌, ◌≤◌, true, false, List, length, ℤ, is_some, IfSome, Some, unsigned_abs}
use Rattle.std.specs.List.{AllByRecursion}
use Rattle.return_source.specs.declared.terms.Entitlement.{Entitlement}
use Rattle.return_source.specs.declared.terms.EntitlementType.{EntitlementType}
use Rattle.return_source.specs.declared.terms.Parameters.{Parameters}
use Rattle.return_source.specs.declared.terms.Scenarios.{Scenarios}
use Rattle.return_source.specs.declared.terms.ScenarioSet.{ScenarioSet}
use Rattle.return_source.specs.declared.terms.ScenarioSet.TheVariants.{Historical, Stress}
use Rattle.return_source.specs.declared.terms.Tier.TheVariants.{Portfolio, Flat}
use Rattle.return_source.specs.Meaning.{Meaning, scenarios_of_set, tier_of}

-- a set of scenarios: a weight of at most 1, 1 to 4,000 scenarios, and a tail of 1 to 100 of them
pub record LawfulScenarios (s : Scenarios) : Type 0 where
  pub weight : s.weight.ten_thousandths ≤ 10000
  pub some : 1 ≤ s.count
  pub few : s.count ≤ 4000
  pub tail_some : 1 ≤ s.tail
  pub tail_few : s.tail ≤ 100
  pub tail_within : s.tail ≤ s.count

-- the parameters: both sets, weights that make the whole, a step of 1 to 1,000,000 dollars, a factor of at most 1
pub record LawfulParameters (p : Parameters) : Type 0 where
  pub historical : LawfulScenarios p.historical
  pub stress : LawfulScenarios p.stress
  pub whole : p.historical.weight.ten_thousandths + p.stress.weight.ten_thousandths ≡ 10000
  pub step_some : 1 ≤ p.step
  pub step_few : p.step ≤ 1000000
  pub factor : p.holiday_factor ≤ 10000000000

-- how many scenarios a set has
abbrev pub scenario_count : Parameters → ScenarioSet → ℕ
scenario_count p w = (scenarios_of_set p w).count

-- a row of returns: one for each scenario, each from -4 to 4, in hundred-millionths
pub record LawfulRow (count : ℕ) (xs : List ℤ) : Type 0 where
  pub long : length xs ≡ count
  pub small : AllByRecursion (λ z. unsigned_abs z ≤ 400000000) xs

-- an entitlement: a price of at most 9,999 and percentages of at most 4 in size, in ten-thousandths
pub record LawfulEntitlement (e : Entitlement) : Type 0 where
  pub price : e.price ≤ 99990000
  pub short : e.short ≤ 40000
  pub long : e.long ≤ 40000

-- a number that a stock can have
pub record Stock (s : ℕ) : Type 0 where
  pub some : 1 ≤ s
  pub few : s ≤ 99999

pub record Lawful (m : Meaning) : Type 0 where
  pub parameters : LawfulParameters m.parameters
  pub rows : (w : ScenarioSet) (s : ℕ) → IfSome (m.returns w s) (LawfulRow (scenario_count m.parameters w))
  pub rates : (s : ℕ) → IfSome (m.rate s) (λ r. r ≤ 10000)
  pub entitlements : (t : EntitlementType) (s : ℕ) → IfSome (m.entitlement t s) LawfulEntitlement
  pub row_stocks : (w : ScenarioSet) (s : ℕ) → is_some (m.returns w s) ≡ true → Stock s
  pub rate_stocks : (s : ℕ) → is_some (m.rate s) ≡ true → Stock s
  pub entitlement_stocks : (t : EntitlementType) (s : ℕ) → is_some (m.entitlement t s) ≡ true → Stock s
  pub both_rows : (s : ℕ) → is_some (m.returns Historical s) ≡ is_some (m.returns Stress s)
  pub no_rate : (s : ℕ) → is_some (m.returns Historical s) ≡ true → is_some (m.rate s) ≡ false

-- the tier of a stock is told by its rows: portfolio exactly where it has both, flat exactly where it has a rate
pub record TierByRows (m : Meaning) (s : ℕ) : Type 0 where
  pub portfolio : tier_of m s ≡ Some Portfolio → (is_some (m.returns Historical s) ≡ true) × (is_some (m.returns Stress s) ≡ true)
  pub both : is_some (m.returns Historical s) ≡ true → is_some (m.returns Stress s) ≡ true → tier_of m s ≡ Some Portfolio
  pub flat : tier_of m s ≡ Some Flat → is_some (m.rate s) ≡ true
  pub rate : is_some (m.rate s) ≡ true → tier_of m s ≡ Some Flat

-- The tier of every stock of every lawful source is told by its rows.
abbrev pub TiersByRows : Type 0
TiersByRows = (m : Meaning) → Lawful m → (s : ℕ) → TierByRows m s
