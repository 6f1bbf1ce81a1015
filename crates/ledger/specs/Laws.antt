-- What is true of every run of calls upon an account, whatever the calls are. Assumes nothing.
use Rattle.std.specs.Prelude.{◌≡◌, ◌↔◌, ℕ, ◌≤◌, List, [], ◌∷◌, map, length, Some, None, Ok, Option}
use Rattle.std.specs.List.{cons_option}
use Rattle.amounts.specs.Sets.{In, Apart, Within}
use Rattle.ledger.specs.declared.terms.Entry.{Entry}
use Rattle.ledger.specs.declared.terms.Posting.{Posting}
use Rattle.ledger.specs.declared.terms.Place.{Place}
use Rattle.ledger.specs.declared.terms.Place.TheVariants.{Free, Live, Cancelled}
use Rattle.ledger.specs.declared.terms.EntryRefusal.{EntryRefusal}
use Rattle.ledger.specs.declared.terms.EntryRefusal.TheVariants.{Cancelled as WasCancelled}
use Rattle.ledger.specs.Entries.{entry_of}
use Rattle.ledger.specs.Table.{number_of_place}
use Rattle.ledger.specs.Calls.{Call, posts, cancels, assesses, Step, post, cancel, step_number, step_of, counted, after, runs, post_refusal, cancel_refusal}

-- ---- order and repeats

-- no number stands for two entries
abbrev pub Single : List Step → Type 0
Single h = (n : ℕ) (d e : Entry) → In (post n d) h → In (post n e) h → d ≡ e

-- a table of cap places has one for every number
abbrev pub Enough : ℕ → List Step → Type 0
Enough cap h = (ns : List ℕ) → Apart ns → Within ns (map step_number h) → length ns ≤ cap

-- two runs have the same posts and cancels, in any order and with any repeats, no number stands for two entries, and
-- each table has places enough
pub record SameSteps (capA capB : ℕ) (a b : List Call) : Type 0 where
  pub to : Within (counted a) (counted b)
  pub from : Within (counted b) (counted a)
  pub single : Single (counted a)
  pub enough_left : Enough capA (counted a)
  pub enough_right : Enough capB (counted b)

-- two tables hold the same places, each once, in some order
pub record SamePlaces (s t : List Place) : Type 0 where
  pub apart_left : Apart s
  pub apart_right : Apart t
  pub to : Within s t
  pub from : Within t s

-- neither the order nor repeats of posts and cancels count
abbrev pub OrderDoesNotCount : Type 0
OrderDoesNotCount = (capA capB : ℕ) (a b : List Call) → SameSteps capA capB a b → SamePlaces (runs capA a []) (runs capB b [])

-- ---- a cancelled number

-- a number is cancelled: it has no live entry, and each further post or cancel of it is refused as cancelled
pub record IsCancelled (cap n : ℕ) (t : List Place) : Type 0 where
  pub not_live : (e : Entry) → In (Live n e) t → ⊥
  pub no_post : (p : Posting) (e : Entry) → p.number ≡ n → entry_of p ≡ Ok e → post_refusal cap p t ≡ Some WasCancelled
  pub no_cancel : cancel_refusal cap n t ≡ Some WasCancelled

-- a number whose cancel was accepted stays cancelled, whatever calls follow
abbrev pub CancelledStaysCancelled : Type 0
CancelledStaysCancelled =
    (cap n : ℕ) (before later : List Call) → cancel_refusal cap n (runs cap before []) ≡ None → IsCancelled cap n (runs cap later (after cap (cancels n) (runs cap before [])))

-- ---- the places

-- no number has two places
abbrev pub EachNumberOnePlace : Type 0
EachNumberOnePlace = (cap : ℕ) (cs : List Call) → Apart (map number_of_place (runs cap cs []))

-- ---- what was accepted

abbrev pub unless_refused : Option EntryRefusal → Option Step → Option Step
unless_refused None s = s
unless_refused (Some r) s = None

-- the step of a call that is accepted over a table
abbrev pub accepted_step : ℕ → Call → List Place → Option Step
accepted_step cap (posts p) t = unless_refused (post_refusal cap p t) (step_of (posts p))
accepted_step cap (cancels n) t = unless_refused (cancel_refusal cap n t) (step_of (cancels n))
accepted_step cap assesses t = None

-- the posts and cancels accepted in a run of calls, in order
abbrev pub accepted : ℕ → List Call → List Place → List Step
accepted cap [] t = []
accepted cap (c ∷ cs) t = cons_option (accepted_step cap c t) (accepted cap cs (after cap c t))

-- a table tells what was accepted: an entry is live exactly where its post was accepted and no cancel of its number,
-- and a place is marked as cancelled exactly where a cancel of its number was accepted; no other place is used
pub record TellsAccepted (h : List Step) (t : List Place) : Type 0 where
  pub live : (n : ℕ) (e : Entry) → In (Live n e) t ↔ (In (post n e) h × (In (cancel n) h → ⊥))
  pub cancelled : (n : ℕ) → In (Cancelled n) t ↔ In (cancel n) h
  pub none_free : In Free t → ⊥

-- the entries live after a run are those posted and not cancelled
abbrev pub LiveIsPostedAndNotCancelled : Type 0
LiveIsPostedAndNotCancelled = (cap : ℕ) (cs : List Call) → TellsAccepted (accepted cap cs []) (runs cap cs [])
