-- A journal: one call on each line, `post` and six whole numbers or `cancel` and one. Assumes nothing.
use Rattle.std.specs.Prelude.{ℕ, ◌+◌, cond, List, [], ◌∷◌, length, ℤ, Some, None, Ok, Err, Option, Result, codes, ◌==◌, option_map, option_and_then}
use Rattle.std.specs.Str.{bytes_eq}
use Rattle.parameter_text.specs.Cuts.{cells}
use Rattle.parameter_text.specs.Left.{lines_left}
use Rattle.ledger.specs.declared.terms.Posting.{Posting}
use Rattle.margin_files.specs.declared.terms.FormFault.{FormFault}
use Rattle.margin_files.specs.declared.terms.JournalCall.{JournalCall}
use Rattle.margin_files.specs.declared.terms.JournalCall.TheVariants.{Post, Cancel}
use Rattle.margin_files.specs.declared.journals.Calls.{Calls}
use Rattle.margin_files.specs.Numbers.{in_u32}
use Rattle.margin_files.specs.Wholes.{wholes}

-- the number, the kind, the stock, the quantity, the contract value and the market value of a post
abbrev pub posting_of : List ℤ → Option Posting
posting_of (n ∷ k ∷ s ∷ q ∷ c ∷ m ∷ []) = Some (record { number = in_u32 n; kind = in_u32 k; stock = in_u32 s; quantity = q; contract_value = c; market_value = m })
posting_of _ = None

-- the number of a cancel
abbrev pub cancelled_of : List ℤ → Option ℕ
cancelled_of (n ∷ []) = Some (in_u32 n)
cancelled_of _ = None

unfoldable pub posting_in : List (List ℕ) → Option Posting
posting_in fields = option_and_then posting_of (wholes fields)

unfoldable pub cancelled_in : List (List ℕ) → Option ℕ
cancelled_in fields = option_and_then cancelled_of (wholes fields)

-- the call that some cells write
abbrev pub call_of : List (List ℕ) → Option JournalCall
call_of [] = None
call_of (name ∷ fields) =
    cond (bytes_eq name (codes "post")) (option_map Post (posting_in fields))
    (cond (bytes_eq name (codes "cancel")) (option_map Cancel (cancelled_in fields)) None)

-- the call that a line writes
unfoldable pub call_of_line : List ℕ → Option JournalCall
call_of_line line = call_of (cells line)

abbrev pub call_before : Option JournalCall → List JournalCall → List JournalCall
call_before None calls = []
call_before (Some call) calls = call ∷ calls

-- the calls of a journal, up to the first line that is none
abbrev pub calls_of : List (List ℕ) → List JournalCall
calls_of [] = []
calls_of (l ∷ ls) = call_before (call_of_line l) (calls_of ls)

-- how many calls a journal has, or its first line that is none
abbrev pub journal_check : List (List ℕ) → Result ℕ FormFault
journal_check ls = cond (length (calls_of ls) == length ls) (Ok (length ls)) (Err (record { line = length (calls_of ls) + 1 }))

-- the calls that are still to come
abbrev pub calls_left : Calls → List JournalCall
calls_left c = calls_of (lines_left c.lines)
