-- A whole day of an account: a run of requests upon it, and one assessment at its end. Assumes nothing.
use Rattle.std.specs.Prelude.{◌≡◌, ℕ, ◌-◌, List, [], ◌∷◌, map, length, take, drop, replicate, ℤ, pos, Ok, Err, Result}
use Rattle.return_source.specs.Meaning.{Meaning}
use Rattle.ledger.specs.declared.terms.Place.{Place}
use Rattle.ledger.specs.declared.terms.Place.TheVariants.{Free}
use Rattle.ledger.specs.declared.terms.Settings.{Settings}
use Rattle.ledger.specs.declared.terms.OpeningRefusal.{OpeningRefusal}
use Rattle.ledger.specs.Calls.{Call, posts, cancels, assesses, after}
use Rattle.margin_rules.specs.declared.terms.Outcome.{Outcome}
use Rattle.margin_rules.specs.declared.terms.Holding.{Holding}
use Rattle.margin_rules.specs.declared.terms.Room.{Room}
use Rattle.margin_rules.specs.declared.terms.Assessment.{Assessment}
use Rattle.margin_rules.specs.declared.terms.AssessmentRefusal.{AssessmentRefusal}
use Rattle.margin_rules.specs.Positions.{Book, book}
use Rattle.margin_rules.specs.Answers.{assessment, sheet_after, list_after, no_outcome}
use Rattle.margin.specs.declared.requests.Request.{Request}
use Rattle.margin.specs.declared.requests.Request.TheVariants.{Post, Cancel, Assess}
use Rattle.margin.specs.declared.requests.DayRefusal.{DayRefusal}
use Rattle.margin.specs.declared.requests.DayRefusal.TheVariants.{Opening, Assessing}
use Rattle.margin.specs.Assessing.{room_of}

-- a request as a call upon the account
abbrev pub call_of : Request → Call
call_of (Post p) = posts p
call_of (Cancel n) = cancels n
call_of Assess = assesses

abbrev pub calls_of : List Request → List Call
calls_of rs = map call_of rs

abbrev pub as_assessing : Result Assessment AssessmentRefusal → Result Assessment DayRefusal
as_assessing (Ok a) = Ok a
as_assessing (Err e) = Err (Assessing e)

-- the answer of a day: why it is not opened, or else its last assessment
abbrev pub day_answer : Result (Unit {0}) OpeningRefusal → Result Assessment AssessmentRefusal → Result Assessment DayRefusal
day_answer (Ok u) r = as_assessing r
day_answer (Err e) r = Err (Opening e)

-- what the caller's sheets and list hold
pub record Sheets : Type 0 where
  pub totals : List ℤ
  pub row : List ℤ
  pub tail : List Outcome
  pub holdings : List Holding

abbrev pub sheets_of : List ℤ → List ℤ → List Outcome → List Holding → Sheets
sheets_of a b c d = record { totals = a; row = b; tail = c; holdings = d }

abbrev pub room_in : Sheets → Room
room_in h = room_of (length h.totals) (length h.row) (length h.tail) (length h.holdings)

abbrev pub sheets_after : Result Assessment AssessmentRefusal → Book → Sheets → Sheets
sheets_after r b h = sheets_of (sheet_after r (pos 0) h.totals) (sheet_after r (pos 0) h.row) (sheet_after r no_outcome h.tail) (list_after r b h.holdings)

-- what a call leaves in the sheets
abbrev pub served : Meaning → Settings → Call → List Place → Sheets → Sheets
served m s (posts p) t h = h
served m s (cancels n) t h = h
served m s assesses t h = sheets_after (assessment m s (book t) (room_in h)) (book t) h

-- and a run of calls
abbrev pub sheets_left : Meaning → Settings → ℕ → List Call → List Place → Sheets → Sheets
sheets_left m s cap [] t h = h
sheets_left m s cap (c ∷ cs) t h = sheets_left m s cap cs (after cap c t) (served m s c t h)

abbrev pub sheets_at_end : Result (Unit {0}) OpeningRefusal → Sheets → Sheets → Sheets
sheets_at_end (Ok u) left old = left
sheets_at_end (Err e) left old = old

-- a table holds these places in front, and free ones behind
pub record Holds (t : List Place) (cap : ℕ) (table : List Place) : Type 0 where
  pub front : take (length t) table ≡ t
  pub rest : drop (length t) table ≡ replicate (cap - length t) Free

abbrev pub TableAtEnd : Result (Unit {0}) OpeningRefusal → List Place → List Place → List Place → Type 0
TableAtEnd (Ok u) t old new = Holds t (length old) new
TableAtEnd (Err e) t old new = new ≡ old
