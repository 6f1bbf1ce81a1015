-- What a received file is found to lay down, and what a checked file keeps of it. Assumes nothing.
use Rattle.std.specs.Prelude.{◌≡◌, ℕ, zero, suc, ◌+◌, ◌<◌, ◌≤◌, Bool, true, false, cond, List, [], length, take, drop, ℤ, is_some, is_ok, Some, None, Ok, Err, Option, Result, slice_index_or}
use Rattle.return_source.specs.declared.terms.Tier.{Tier}
use Rattle.return_source.specs.declared.terms.Tier.TheVariants.{Portfolio, Flat}
use Rattle.return_source.specs.declared.terms.EntitlementType.TheVariants.{Dsp, Sri, Div}
use Rattle.return_source.specs.Meaning.{Meaning, tier_by, tier_of}
use Rattle.parameter_heading.specs.declared.terms.Fault.{Fault}
use Rattle.parameter_heading.specs.declared.terms.Heading.{Heading}
use Rattle.parameter_file.specs.declared.terms.StockRows.{StockRows}
use Rattle.parameter_file.specs.declared.terms.Summary.{Summary}
use Rattle.parameter_file.specs.declared.terms.Refusal.{Refusal}
use Rattle.parameter_file.specs.declared.terms.Refusal.TheVariants as refusal
use Rattle.file_rules.specs.Rows.{File, Row, meaning}
use Rattle.file_rules.specs.Judged.{stock_places, verdict}
use Rattle.parameter_file.specs.Table.{no_rows, Holds}
use Rattle.parameter_file.specs.Tests.{says}

-- the answer of a check: passed, or the first fault
abbrev pub check_answer : Result File Fault → Result (Unit {0}) Fault
check_answer (Ok f) = Ok tt
check_answer (Err e) = Err e

-- Does a file pass?
abbrev pub passes : List ℕ → Bool
passes bytes = is_ok (verdict bytes)

-- the rows that a file lays down: none where it fails
abbrev pub rows_in : Result File Fault → List Row
rows_in (Ok f) = f.rows
rows_in (Err e) = []

-- the heading that a file lays down, or another one where it fails
abbrev pub heading_in : Result File Fault → Heading → Heading
heading_in (Ok f) h = f.heading
heading_in (Err e) h = h

-- the file that bytes with this heading lay down
abbrev pub file_of : List ℕ → Heading → File
file_of bytes h = record { heading = h; rows = rows_in (verdict bytes) }

-- what a checked file means
abbrev pub meaning_of : List ℕ → Heading → Meaning
meaning_of bytes h = meaning (file_of bytes h)

-- the judgement of a file, beside what is kept of it
abbrev pub JudgedFile : List ℕ → List ℤ → List StockRows → Result Heading Fault → Type 0
JudgedFile bytes kept table (Ok h) = (verdict bytes ≡ Ok (file_of bytes h)) × (length table ≡ stock_places) × Holds h.parameters kept table (rows_in (verdict bytes))
JudgedFile bytes kept table (Err e) = verdict bytes ≡ Err e

-- the heading of a file that passes
abbrev pub heading_found : Result File Fault → Option Heading
heading_found (Ok f) = Some f.heading
heading_found (Err e) = None

-- a test of each stock's place: what is kept of it says what the file's rows say
abbrev pub indexes : Result File Fault → List ℤ → List StockRows → ℕ → Bool
indexes (Ok f) kept table s = says f.heading.parameters kept f.rows s (slice_index_or table s no_rows)
indexes (Err e) kept table s = true

abbrev pub Indexed : List ℕ → List ℤ → List StockRows → Type 0
Indexed bytes kept table = (s : ℕ) → s < length table → indexes (verdict bytes) kept table s ≡ true

-- so many returns from a start are a stock's, or it has none
abbrev pub Places : List ℤ → Option (List ℤ) → Option (ℕ × ℕ) → Type 0
Places kept row None = None ≡ row
Places kept row (Some p) = (Some (take p.1 (drop p.0 kept)) ≡ row) × (p.0 + p.1 ≤ length kept)

abbrev pub place_from : Option ℕ → ℕ → Option (ℕ × ℕ)
place_from None n = None
place_from (Some start) n = Some (start, n)

-- a count over the stocks below n
unfoldable pub tally : (ℕ → ℕ) → ℕ → ℕ
tally f zero = 0
tally f (suc n) = tally f n + f n

abbrev pub yes : Bool → ℕ
yes b = cond b 1 0

abbrev pub in_tier : Tier → Option Tier → Bool
in_tier Portfolio None = false
in_tier Portfolio (Some Portfolio) = true
in_tier Portfolio (Some Flat) = false
in_tier Flat None = false
in_tier Flat (Some Portfolio) = false
in_tier Flat (Some Flat) = true

-- how many stocks stand in a tier
abbrev pub tier_count : Meaning → Tier → ℕ
tier_count m t = tally (λ s. yes (in_tier t (tier_of m s))) stock_places

-- how many entitlements a stock has
abbrev pub rights_of : Meaning → ℕ → ℕ
rights_of m s = yes (is_some (m.entitlement Dsp s)) + yes (is_some (m.entitlement Sri s)) + yes (is_some (m.entitlement Div s))

-- how many entitlements there are
abbrev pub entitlement_count : Meaning → ℕ
entitlement_count m = tally (rights_of m) stock_places

-- a file in numbers
abbrev pub summary : File → Summary
summary f = record { heading = f.heading; portfolio_stocks = tier_count (meaning f) Portfolio; flat_stocks = tier_count (meaning f) Flat; entitlements = entitlement_count (meaning f) }

abbrev pub summarised : Result File Fault → Result Summary Fault
summarised (Ok f) = Ok (summary f)
summarised (Err e) = Err e

-- an examination tells the file's numbers or its fault, unless memory is wanting
abbrev pub Examined : Result Summary Fault → Result Summary Refusal → Type 0
Examined j (Ok s) = j ≡ Ok s
Examined j (Err (refusal.Fault e)) = j ≡ Err e
Examined j (Err refusal.Memory) = Unit {0}

-- the tier and the entitlements of a stock by what is kept of it

abbrev pub tier_in : StockRows → Option Tier
tier_in e = tier_by (is_some e.historical) (is_some e.stress) (is_some e.rate)

abbrev pub rights_in : StockRows → ℕ
rights_in e = yes (is_some e.dsp) + yes (is_some e.sri) + yes (is_some e.div)
