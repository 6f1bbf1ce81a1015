-- The rows of a parameter file, and what they mean of each stock: its returns in either set of scenarios, its flat rate
-- and its entitlements are those of the first row that has them. Assumes nothing.
use Rattle.std.specs.Prelude.{ℕ, zero, suc, ◌+◌, min, Bool, true, false, cond, not, ◌&&◌, ◌||◌, List, [], ◌∷◌, ℤ, is_some, Some, None, Option, ◌==◌}
use Rattle.return_source.specs.declared.terms.ScenarioSet.{ScenarioSet}
use Rattle.return_source.specs.declared.terms.ScenarioSet.TheVariants.{Historical, Stress}
use Rattle.return_source.specs.declared.terms.EntitlementType.{EntitlementType}
use Rattle.return_source.specs.declared.terms.EntitlementType.TheVariants.{Dsp, Sri, Div}
use Rattle.return_source.specs.declared.terms.Entitlement.{Entitlement}
use Rattle.return_source.specs.Meaning.{Meaning}
use Rattle.parameter_heading.specs.declared.terms.Heading.{Heading}

pub data Content : Type 0 where
  returns : ScenarioSet → List ℤ → Content
  rate : ℕ → Content
  right : EntitlementType → Entitlement → Content
  unread : Content

pub record Row : Type 0 where
  pub stock : ℕ
  pub content : Content

-- what a file lays down
pub record File : Type 0 where
  pub heading : Heading
  pub rows : List Row

abbrev pub same_set : ScenarioSet → ScenarioSet → Bool
same_set Historical Historical = true
same_set Historical Stress = false
same_set Stress Historical = false
same_set Stress Stress = true

abbrev pub same_type : EntitlementType → EntitlementType → Bool
same_type Dsp Dsp = true
same_type Dsp Sri = false
same_type Dsp Div = false
same_type Sri Dsp = false
same_type Sri Sri = true
same_type Sri Div = false
same_type Div Dsp = false
same_type Div Sri = false
same_type Div Div = true

-- what a row has of a kind

abbrev pub returns_in : ScenarioSet → Content → Option (List ℤ)
returns_in w (returns v xs) = cond (same_set w v) (Some xs) None
returns_in w (rate n) = None
returns_in w (right t e) = None
returns_in w unread = None

abbrev pub rate_in : Content → Option ℕ
rate_in (returns v xs) = None
rate_in (rate n) = Some n
rate_in (right t e) = None
rate_in unread = None

abbrev pub right_in : EntitlementType → Content → Option Entitlement
right_in t (returns v xs) = None
right_in t (rate n) = None
right_in t (right u e) = cond (same_type t u) (Some e) None
right_in t unread = None

abbrev pub or_else : {X : Type 0} → Option X → Option X → Option X
or_else None o = o
or_else (Some x) o = Some x

-- what the first row of a stock that has it gives
abbrev pub first_in : {X : Type 0} → (Content → Option X) → List Row → ℕ → Option X
first_in f [] s = None
first_in f (r ∷ rs) s = or_else (cond (r.stock == s) (f r.content) None) (first_in f rs s)

-- what a file means
abbrev pub meaning : File → Meaning
meaning f = record {
  parameters = f.heading.parameters;
  returns = λ w s. first_in (returns_in w) f.rows s;
  rate = λ s. first_in rate_in f.rows s;
  entitlement = λ t s. first_in (right_in t) f.rows s;
}

-- Question 7: a row of that stock and type, and for an entitlement of its type, stands before.
abbrev pub repeated : List Row → ℕ → Content → Bool
repeated rows s (returns w xs) = is_some (first_in (returns_in w) rows s)
repeated rows s (rate n) = is_some (first_in rate_in rows s)
repeated rows s (right t e) = is_some (first_in (right_in t) rows s)
repeated rows s unread = false

-- Question 8: a stock has a row of returns, and not both or a flat rate beside them.

abbrev pub unfit : Bool → Bool → Bool → Bool
unfit historical stress flat = (historical || stress) && (not (historical && stress) || flat)

abbrev pub uneven : List Row → ℕ → Bool
uneven rows s = unfit (is_some (first_in (returns_in Historical) rows s)) (is_some (first_in (returns_in Stress) rows s)) (is_some (first_in rate_in rows s))

-- a row of returns or of a flat rate
abbrev pub tiered : Content → Bool
tiered (returns w xs) = true
tiered (rate n) = true
tiered (right t e) = false
tiered unread = false

-- the line of a stock's first such row, where the rows start at line k
abbrev pub first_line : ℕ → List Row → ℕ → Option ℕ
first_line k [] s = None
first_line k (r ∷ rs) s = cond (r.stock == s && tiered r.content) (Some k) (first_line (k + 1) rs s)

-- the line that question 8 names for a stock, if it is at fault
abbrev pub fault_line : List Row → ℕ → Option ℕ
fault_line rows s = cond (uneven rows s) (first_line 14 rows s) None

abbrev pub earlier : Option ℕ → Option ℕ → Option ℕ
earlier None o = o
earlier (Some a) None = Some a
earlier (Some a) (Some b) = Some (min a b)

-- the earliest of the lines that f gives for the stocks below n
unfoldable pub earliest : (ℕ → Option ℕ) → ℕ → Option ℕ
earliest f zero = None
earliest f (suc n) = earlier (earliest f n) (f n)
