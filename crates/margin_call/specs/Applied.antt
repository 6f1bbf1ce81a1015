-- A journal's call upon an account. Assumes nothing.
use Rattle.std.specs.Prelude.{ℕ, List, map, Result}
use Rattle.std.specs.List.{flat_map}
use Rattle.parameter_text.specs.Cuts.{lines}
use Rattle.ledger.specs.declared.terms.Place.{Place}
use Rattle.ledger.specs.declared.terms.EntryRefusal.{EntryRefusal}
use Rattle.ledger.specs.Calls.{Call, posts, cancels, runs, post_answer, cancel_answer}
use Rattle.margin_files.specs.declared.terms.JournalCall.{JournalCall}
use Rattle.margin_files.specs.declared.terms.JournalCall.TheVariants.{Post, Cancel}
use Rattle.margin_files.specs.Journals.{calls_of}

-- a line of a journal as a call
abbrev pub call_made : JournalCall → Call
call_made (Post p) = posts p
call_made (Cancel n) = cancels n

-- what it is answered
abbrev pub answer_made : ℕ → JournalCall → List Place → Result ℕ EntryRefusal
answer_made places (Post p) slots = post_answer places p slots
answer_made places (Cancel n) slots = cancel_answer places n slots

-- the places that calls of a journal leave
abbrev pub places_after : ℕ → List JournalCall → List Place → List Place
places_after places calls slots = runs places (map call_made calls) slots

-- the calls of a journal's text
abbrev pub journal_calls : List ℕ → List JournalCall
journal_calls text = calls_of (lines text)

-- the calls of several journals' texts, one journal after the other
abbrev pub all_calls : List (List ℕ) → List JournalCall
all_calls texts = flat_map journal_calls texts
