-- What posts and cancels answer and leave, and what a run of calls leaves. Assumes nothing.
use Rattle.std.specs.Prelude.{ℕ, Bool, cond, List, [], ◌∷◌, length, Some, None, Ok, Err, Option, Result, nat_lt, filter_map}
use Rattle.ledger.specs.declared.terms.Entry.{Entry}
use Rattle.ledger.specs.declared.terms.Posting.{Posting}
use Rattle.ledger.specs.declared.terms.Place.{Place}
use Rattle.ledger.specs.declared.terms.Place.TheVariants.{Free, Live, Cancelled}
use Rattle.ledger.specs.declared.terms.EntryRefusal.{EntryRefusal}
use Rattle.ledger.specs.declared.terms.EntryRefusal.TheVariants.{Number, Posted, Full, Cancelled as IsCancelled}
use Rattle.ledger.specs.Entries.{numbered, entry_of}
use Rattle.std.specs.List.{prefix_len}
use Rattle.ledger.specs.Table.{is_other, found, posted, cancelled, live_count}

-- a call upon an open account
pub data Call : Type 0 where
  posts : Posting → Call
  cancels : ℕ → Call
  assesses : Call

-- a post or a cancel whose number, instrument and sizes no question refuses
pub data Step : Type 0 where
  post : ℕ → Entry → Step
  cancel : ℕ → Step

-- the number that a step is of
abbrev pub step_number : Step → ℕ
step_number (post n e) = n
step_number (cancel n) = n

abbrev pub post_step : ℕ → Result Entry EntryRefusal → Option Step
post_step n (Ok e) = Some (post n e)
post_step n (Err r) = None

-- the step of a call, if it is a post or a cancel that no question ahead of the state of its number refuses
abbrev pub step_of : Call → Option Step
step_of (posts p) = cond (numbered p.number) (post_step p.number (entry_of p)) None
step_of (cancels n) = cond (numbered n) (Some (cancel n)) None
step_of assesses = None

-- the steps of a run of calls, in order
abbrev pub counted : List Call → List Step
counted cs = filter_map step_of cs

-- is one of cap places free
abbrev pub has_room : ℕ → List Place → Bool
has_room cap t = nat_lt (length t) cap

-- what a step leaves of a table with cap places
abbrev pub stepped : ℕ → Step → List Place → List Place
stepped cap (post n e) t = posted (has_room cap t) n e t
stepped cap (cancel n) t = cancelled (has_room cap t) n t

abbrev pub after_step : ℕ → Option Step → List Place → List Place
after_step cap None t = t
after_step cap (Some s) t = stepped cap s t

-- what a call leaves of a table with cap places
abbrev pub after : ℕ → Call → List Place → List Place
after cap c t = after_step cap (step_of c) t

-- what a run of calls leaves
abbrev pub runs : ℕ → List Call → List Place → List Place
runs cap [] t = t
runs cap (c ∷ cs) t = runs cap cs (after cap c t)

-- the questions on the state of a post's number, and then on room
abbrev pub post_known : Option Place → Bool → Option EntryRefusal
post_known None room = cond room None (Some Full)
post_known (Some Free) room = cond room None (Some Full)
post_known (Some (Live n e)) room = Some Posted
post_known (Some (Cancelled n)) room = Some IsCancelled

-- the questions on the state of a cancel's number, and then on room
abbrev pub cancel_known : Option Place → Bool → Option EntryRefusal
cancel_known None room = cond room None (Some Full)
cancel_known (Some Free) room = cond room None (Some Full)
cancel_known (Some (Live n e)) room = None
cancel_known (Some (Cancelled n)) room = Some IsCancelled

abbrev pub post_checked : Result Entry EntryRefusal → Option EntryRefusal → Option EntryRefusal
post_checked (Err r) o = Some r
post_checked (Ok e) o = o

-- the first question that refuses a post, over a table with cap places
abbrev pub post_refusal : ℕ → Posting → List Place → Option EntryRefusal
post_refusal cap p t = cond (numbered p.number) (post_checked (entry_of p) (post_known (found p.number t) (has_room cap t))) (Some Number)

-- the first question that refuses a cancel
abbrev pub cancel_refusal : ℕ → ℕ → List Place → Option EntryRefusal
cancel_refusal cap n t = cond (numbered n) (cancel_known (found n t) (has_room cap t)) (Some Number)

-- a refusal, or else an answer
abbrev pub refused_or : {X : Type 0} → Option EntryRefusal → Result X EntryRefusal → Result X EntryRefusal
refused_or None a = a
refused_or (Some r) a = Err r

-- the entry that a post stores, or why it is refused
abbrev pub checked_post : ℕ → Posting → List Place → Result Entry EntryRefusal
checked_post cap p t = refused_or (post_refusal cap p t) (entry_of p)

-- the place that a cancel marks, told by how many stand ahead of it, or why the cancel is refused; it is the first
-- free one where the number has none
abbrev pub checked_cancel : ℕ → ℕ → List Place → Result ℕ EntryRefusal
checked_cancel cap n t = refused_or (cancel_refusal cap n t) (Ok (prefix_len (is_other n) t))

-- what a post answers: why it is refused, or how many entries are then live
abbrev pub post_answer : ℕ → Posting → List Place → Result ℕ EntryRefusal
post_answer cap p t = refused_or (post_refusal cap p t) (Ok (live_count (after cap (posts p) t)))

-- what a cancel answers
abbrev pub cancel_answer : ℕ → ℕ → List Place → Result ℕ EntryRefusal
cancel_answer cap n t = refused_or (cancel_refusal cap n t) (Ok (live_count (after cap (cancels n) t)))
