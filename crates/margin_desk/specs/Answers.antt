-- The answers to posts and cancels as they are printed, and how often each was given. Assumes nothing.
use Rattle.std.specs.Prelude.{ℕ, ◌+◌, List, ◌++◌, min, Ok, Err, Result, codes, decimal}
use Rattle.ledger.specs.declared.terms.EntryRefusal.{EntryRefusal}
use Rattle.ledger.specs.declared.terms.EntryRefusal.TheVariants.{Number, Instrument, Size, Cancelled, Posted, Full}
use Rattle.ledger.specs.Refusals.{entry_refusal_number}
use Rattle.figures.specs.Columns.{count_cell}
use Rattle.margin_desk.specs.declared.answers.Answer.{Answer}
use Rattle.margin_desk.specs.declared.answers.AnswerCounts.{AnswerCounts}
use Rattle.margin_desk.specs.Refusals.{entry_meaning, questioned}

abbrev pub said_line : Result ℕ EntryRefusal → List ℕ
said_line (Ok count) = codes ",ok," ++ decimal count
said_line (Err refusal) = codes ",refused," ++ decimal (entry_refusal_number refusal)

-- an answer, for scripts
abbrev pub answer_line : Answer → List ℕ
answer_line a = codes "answer," ++ (decimal a.journal ++ (codes "," ++ (decimal a.line ++ said_line a.answer)))

abbrev pub said_report : Result ℕ EntryRefusal → List ℕ
said_report (Ok count) = codes ": accepted, live entries now " ++ decimal count
said_report (Err refusal) = codes ": " ++ questioned (entry_refusal_number refusal) (entry_meaning refusal)

-- and for people
abbrev pub answer_report : Answer → List ℕ
answer_report a = codes "journal " ++ (decimal a.journal ++ (codes ", line " ++ (decimal a.line ++ said_report a.answer)))

-- no answer yet
abbrev pub no_answers : AnswerCounts
no_answers = record { accepted = 0; number = 0; instrument = 0; size = 0; cancelled = 0; posted = 0; full = 0 }

-- a count of 32 bits stays at the greatest number
abbrev pub one_more : ℕ → ℕ
one_more n = min (n + 1) 4294967295

-- one answer more
abbrev pub counted : Result ℕ EntryRefusal → AnswerCounts → AnswerCounts
counted (Ok n) c = record c { accepted = one_more c.accepted }
counted (Err Number) c = record c { number = one_more c.number }
counted (Err Instrument) c = record c { instrument = one_more c.instrument }
counted (Err Size) c = record c { size = one_more c.size }
counted (Err Cancelled) c = record c { cancelled = one_more c.cancelled }
counted (Err Posted) c = record c { posted = one_more c.posted }
counted (Err Full) c = record c { full = one_more c.full }

-- how often each refusal was given, for people
abbrev pub refused_rows : AnswerCounts → List ℕ
refused_rows c =
    codes "Refused by question 21, number out of range " ++ (count_cell c.number ++ (
    codes "\nRefused by question 22, no instrument       " ++ (count_cell c.instrument ++ (
    codes "\nRefused by question 23, size out of range   " ++ (count_cell c.size ++ (
    codes "\nRefused by question 24, already cancelled   " ++ (count_cell c.cancelled ++ (
    codes "\nRefused by question 25, already posted      " ++ (count_cell c.posted ++ (
    codes "\nRefused by question 26, table full          " ++ count_cell c.full))))))))))

-- and each answer
abbrev pub counts_report : AnswerCounts → List ℕ
counts_report c = codes "Calls accepted                              " ++ (count_cell c.accepted ++ (codes "\n" ++ refused_rows c))
