-- The laws of an account, over whole runs of calls upon it and every lawful source: the order and repeats of its posts and
-- cancels do not count, joining two accounts never costs more, and rounding moves the total by little; and what a tail and the
-- two roundings are. Assumes nothing.
use Rattle.std.specs.Prelude.{◌≡◌, ◌≢◌, ℕ, ◌+◌, List, [], ◌++◌, ℤ, pos, ◌+ℤ◌, ◌*ℤ◌, ◌≤ℤ◌, Ok, Err, Result}
use Rattle.std.specs.List.Sorted.{IsPermutation}
use Rattle.amounts.specs.Tails.{TailIsLeast}
use Rattle.amounts.specs.Rounding.{RoundOffIsNear, RoundUpIsNear}
use Rattle.return_source.specs.Meaning.{Meaning}
use Rattle.return_source.specs.Lawful.{Lawful}
use Rattle.ledger.specs.declared.terms.Settings.{Settings}
use Rattle.ledger.specs.Calls.{Call, runs}
use Rattle.ledger.specs.Table.{entries}
use Rattle.ledger.specs.Laws.{SameSteps}
use Rattle.margin_rules.specs.declared.terms.Room.{Room}
use Rattle.margin_rules.specs.declared.terms.Assessment.{Assessment}
use Rattle.margin_rules.specs.declared.terms.AssessmentRefusal.{AssessmentRefusal}
use Rattle.margin_rules.specs.declared.terms.AssessmentRefusal.TheVariants.{Sheets}
use Rattle.margin_rules.specs.Positions.{Book, book, all_stocks}
use Rattle.margin_rules.specs.Charges.{all_rates}
use Rattle.margin_rules.specs.Answers.{assessment, list_of}
use Rattle.margin_rules.specs.Unrounded.{scale, unrounded_of}

-- the positions that a run of calls leaves in a newly opened account of so many places
abbrev pub book_after : ℕ → List Call → Book
book_after places calls = book (runs places calls [])

-- what one assess more answers
abbrev pub asked : Meaning → Settings → ℕ → List Call → Room → Result Assessment AssessmentRefusal
asked m s places calls l = assessment m s (book_after places calls) l

-- the unrounded total then, over the scale
abbrev pub unrounded_after : Meaning → Settings → ℕ → List Call → ℤ
unrounded_after m s places calls = unrounded_of m s all_stocks all_rates (book_after places calls)

-- two assessments are equal: the same figures or the same refusal, and the same holdings list
pub record EqualAssessments (m : Meaning) (s : Settings) (placesA placesB : ℕ) (a b : List Call) (k l : Room) : Type 0 where
  pub answers : asked m s placesA a k ≡ asked m s placesB b l
  pub lists : list_of k.holdings all_stocks (book_after placesA a) ≡ list_of l.holdings all_stocks (book_after placesB b)

-- Two accounts of equal settings that got the same posts and cancels, in any order and with any repeats, are assessed alike,
-- if no number stood for two entries and there were places enough.
abbrev pub OrderDoesNotCount : Type 0
OrderDoesNotCount =
    (m : Meaning) → Lawful m → (s : Settings) (placesA placesB : ℕ) (a b : List Call) → SameSteps placesA placesB a b → (k l : Room) → k.holdings ≡ l.holdings →
    (asked m s placesA a k ≢ Err Sheets) → (asked m s placesB b l ≢ Err Sheets) → EqualAssessments m s placesA placesB a b k l

-- the credit and each given amount of u is the sum of those of s and t, and all other settings are equal
pub record Together (s t u : Settings) : Type 0 where
  pub credit : u.credit ≡ s.credit + t.credit
  pub liquidation : u.given.liquidation ≡ s.given.liquidation + t.given.liquidation
  pub structured_product : u.given.structured_product ≡ s.given.structured_product + t.given.structured_product
  pub position_limit : u.given.position_limit ≡ s.given.position_limit + t.given.position_limit
  pub credit_risk : u.given.credit_risk ≡ s.given.credit_risk + t.given.credit_risk
  pub ad_hoc : u.given.ad_hoc ≡ s.given.ad_hoc + t.given.ad_hoc
  pub multiplier_left : u.multiplier ≡ s.multiplier
  pub multiplier_right : u.multiplier ≡ t.multiplier
  pub floor_left : u.floor_rate ≡ s.floor_rate
  pub floor_right : u.floor_rate ≡ t.floor_rate
  pub ipo_left : u.ipo ≡ s.ipo
  pub ipo_right : u.ipo ≡ t.ipo

-- An account whose live entries are those of two others together, numbers aside and each as often, never costs more than both.
abbrev pub JoiningNeverCostsMore : Type 0
JoiningNeverCostsMore =
    (m : Meaning) → Lawful m → (s t u : Settings) → Together s t u → (placesA placesB placesC : ℕ) (a b c : List Call) →
    IsPermutation (entries (runs placesA a []) ++ entries (runs placesB b [])) (entries (runs placesC c [])) →
    unrounded_after m u placesC c ≤ℤ (unrounded_after m s placesA a +ℤ unrounded_after m t placesB b)

-- the answered total is at most n + 3 below the unrounded one, and at most n + 2 and the step above it
pub record StaysClose (m : Meaning) (s : Settings) (places : ℕ) (calls : List Call) (a : Assessment) : Type 0 where
  pub low : unrounded_after m s places calls ≤ℤ (pos (scale m) *ℤ (a.total +ℤ pos (a.positions + 3)))
  pub high : (pos (scale m) *ℤ a.total) ≤ℤ (unrounded_after m s places calls +ℤ pos (scale m) *ℤ pos (a.positions + 2 + m.parameters.step))

-- Every total that an assess answers is close to the unrounded one.
abbrev pub RoundingStaysClose : Type 0
RoundingStaysClose =
    (m : Meaning) → Lawful m → (s : Settings) (places : ℕ) (calls : List Call) (l : Room) (a : Assessment) → asked m s places calls l ≡ Ok a → StaysClose m s places calls a

pub record AccountLaws : Type 0 where
  pub order : OrderDoesNotCount
  pub joining : JoiningNeverCostsMore
  pub rounding : RoundingStaysClose
  pub least : TailIsLeast
  pub rounded_off : RoundOffIsNear
  pub rounded_up : RoundUpIsNear
