-- What the check keeps of the rows that it has passed: all returns one after the other, and for each stock where its
-- returns start, its rate, its entitlements and the line of its first row of returns or rate. Assumes nothing.
use Rattle.std.specs.Prelude.{◌≡◌, ℕ, ◌+◌, ◌*◌, ◌<◌, ◌≤◌, Bool, false, cond, List, [], ◌∷◌, ◌++◌, length, take, drop, ℤ, is_some, Some, None, Ok, Err, Option, Result, slice_index_or}
use Rattle.std.specs.Option.{unwrap_or}
use Rattle.parameter_text.specs.declared.terms.Question.{Question}
use Rattle.parameter_text.specs.Cuts.{cells, line_of, after_line}
use Rattle.parameter_rows.specs.Returns.{returns_cells}
use Rattle.parameter_text.specs.Integers.{integer, stock_cell}
use Rattle.return_source.specs.declared.terms.ScenarioSet.TheVariants.{Historical, Stress}
use Rattle.return_source.specs.declared.terms.EntitlementType.{EntitlementType}
use Rattle.return_source.specs.declared.terms.EntitlementType.TheVariants.{Dsp, Sri, Div}
use Rattle.return_source.specs.declared.terms.Entitlement.{Entitlement}
use Rattle.return_source.specs.declared.terms.ScenarioSet.{ScenarioSet}
use Rattle.return_source.specs.declared.terms.Parameters.{Parameters}
use Rattle.file_rules.specs.declared.terms.FieldType.{FieldType}
use Rattle.file_rules.specs.declared.terms.FieldType.TheVariants as field
use Rattle.parameter_file.specs.declared.terms.Found.{Found}
use Rattle.parameter_file.specs.declared.terms.Found.TheVariants as found
use Rattle.parameter_file.specs.declared.terms.FoundCells.{FoundCells}
use Rattle.parameter_file.specs.declared.terms.FoundRow.{FoundRow}
use Rattle.parameter_file.specs.declared.terms.StockRows.{StockRows}
use Rattle.file_rules.specs.Rows.{Content, returns, rate, right, unread, Row, returns_in, rate_in, right_in, or_else, first_in, unfit, first_line}
use Rattle.return_source.specs.Lawful.{scenario_count}
use Rattle.file_rules.specs.Judged.{field_of, rate_content, right_content, row_head, with_stock, row_cells, row_line}

-- a stock without rows
abbrev pub no_rows : StockRows
no_rows = record { historical = None; stress = None; rate = None; dsp = None; sri = None; div = None; line = None }

-- what a row holds, whose returns were kept aside
abbrev pub held : Found → List ℤ → Content
held (found.Returns w) vs = returns w vs
held (found.Rate n) vs = rate n
held (found.Right t e) vs = right t e
held found.Unread vs = unread

-- what is kept aside of a row
abbrev pub aside : Found → List ℤ → List ℤ
aside (found.Returns w) vs = vs
aside (found.Rate n) vs = []
aside (found.Right t e) vs = []
aside found.Unread vs = []

-- where a stock's returns in a set start
abbrev pub place_in : StockRows → ScenarioSet → Option ℕ
place_in e Historical = e.historical
place_in e Stress = e.stress

-- what is kept of a stock's entitlement of a type
abbrev pub right_kept : StockRows → EntitlementType → Option Entitlement
right_kept e Dsp = e.dsp
right_kept e Sri = e.sri
right_kept e Div = e.div

-- has the stock a row of that kind already
abbrev pub taken : StockRows → Found → Bool
taken e (found.Returns Historical) = is_some e.historical
taken e (found.Returns Stress) = is_some e.stress
taken e (found.Rate n) = is_some e.rate
taken e (found.Right Dsp x) = is_some e.dsp
taken e (found.Right Sri x) = is_some e.sri
taken e (found.Right Div x) = is_some e.div
taken e found.Unread = false

-- the stock with one row more, whose returns start at a place, on line k
abbrev pub noted : StockRows → Found → ℕ → ℕ → StockRows
noted e (found.Returns Historical) start k = record { historical = Some start; stress = e.stress; rate = e.rate; dsp = e.dsp; sri = e.sri; div = e.div; line = or_else e.line (Some k) }
noted e (found.Returns Stress) start k = record { historical = e.historical; stress = Some start; rate = e.rate; dsp = e.dsp; sri = e.sri; div = e.div; line = or_else e.line (Some k) }
noted e (found.Rate n) start k = record { historical = e.historical; stress = e.stress; rate = Some n; dsp = e.dsp; sri = e.sri; div = e.div; line = or_else e.line (Some k) }
noted e (found.Right Dsp x) start k = record { historical = e.historical; stress = e.stress; rate = e.rate; dsp = Some x; sri = e.sri; div = e.div; line = e.line }
noted e (found.Right Sri x) start k = record { historical = e.historical; stress = e.stress; rate = e.rate; dsp = e.dsp; sri = Some x; div = e.div; line = e.line }
noted e (found.Right Div x) start k = record { historical = e.historical; stress = e.stress; rate = e.rate; dsp = e.dsp; sri = e.sri; div = Some x; line = e.line }
noted e found.Unread start k = e

-- the line that question 8 names for a stock, if it is at fault
abbrev pub fault_in : StockRows → Option ℕ
fault_in e = cond (unfit (is_some e.historical) (is_some e.stress) (is_some e.rate)) e.line None

-- n returns from a place
abbrev pub kept_row : ℕ → List ℤ → Option ℕ → List ℤ
kept_row n kept None = []
kept_row n kept (Some start) = take n (drop start kept)

abbrev pub place_end : ℕ → Option ℕ → ℕ
place_end n None = 0
place_end n (Some start) = start + n

-- a stock's returns are those kept at its place
abbrev pub KeptAt : ℕ → List ℤ → Option ℕ → Option (List ℤ) → Type 0
KeptAt n kept place row = (is_some place ≡ is_some row) × (kept_row n kept place ≡ unwrap_or row []) × (place_end n place ≤ length kept)

-- what is kept of stock s says what the rows say of it
abbrev pub Says : Parameters → List ℤ → List Row → ℕ → StockRows → Type 0
Says p kept rows s e =
    KeptAt (scenario_count p Historical) kept e.historical (first_in (returns_in Historical) rows s)
    × KeptAt (scenario_count p Stress) kept e.stress (first_in (returns_in Stress) rows s)
    × (e.rate ≡ first_in rate_in rows s)
    × (e.dsp ≡ first_in (right_in Dsp) rows s)
    × (e.sri ≡ first_in (right_in Sri) rows s)
    × (e.div ≡ first_in (right_in Div) rows s)
    × (e.line ≡ first_line 14 rows s)

abbrev pub Holds : Parameters → List ℤ → List StockRows → List Row → Type 0
Holds p kept table rows = (s : ℕ) → s < length table → Says p kept rows s (slice_index_or table s no_rows)

-- no stock has rows yet
abbrev pub Blank : List StockRows → Type 0
Blank table = (s : ℕ) → s < length table → slice_index_or table s no_rows ≡ no_rows

-- the cells of a row that holds no returns
abbrev pub other_content : FieldType → List (List ℕ) → Result Content Question
other_content (field.Returns w) cs = Ok unread
other_content field.FlatRate cs = rate_content cs
other_content field.Entitlement cs = right_content cs
other_content field.Unread cs = Ok unread

-- the front of a text is a row's stock and field type, and a third cell starts at n
pub record HeadText (text : List ℕ) (s : ℕ) (t : FieldType) (n : ℕ) (c d : List ℕ) (k : ℕ) : Type 0 where
  pub within : n ≤ length text
  pub parts : text ≡ c ++ 44 ∷ (d ++ 44 ∷ drop n text)
  pub stock : stock_cell c ≡ Ok s
  pub number : integer 1 7 d ≡ Ok k
  pub kind : field_of k ≡ t

abbrev pub Headed : List ℕ → ℕ → FieldType → ℕ → Type 0
Headed text s t n = (c : List ℕ) × (d : List ℕ) × (k : ℕ) × HeadText text s t n c d k

-- the first two cells of a line are a row's stock and field type, and these are the others
abbrev pub LineHead : List (List ℕ) → ℕ → FieldType → List (List ℕ) → Type 0
LineHead all s t cs = (c : List ℕ) × (d : List ℕ) × (all ≡ c ∷ d ∷ cs) × (row_head c d ≡ Ok (s, t))

-- a piece of text begins with the head of a row: its third cell starts at n, or it has two cells alone
abbrev pub HeadOf : List ℕ → ℕ → FieldType → Option ℕ → Type 0
HeadOf piece s t (Some n) = Headed piece s t n
HeadOf piece s t None = LineHead (cells piece) s t []

-- the same of a text, whose line may have two cells alone
abbrev pub HeadRead : List ℕ → ℕ → FieldType → Option ℕ → Type 0
HeadRead text s t (Some n) = Headed text s t n
HeadRead text s t None = LineHead (cells (line_of text)) s t []

-- the head of a row fails this question
abbrev pub FaultyHead : List (List ℕ) → Question → Type 0
FaultyHead all q = (p : Parameters) → row_cells p all ≡ Err q

-- the cells after the head were read: what they hold, what was kept of them, and where the next line starts
pub record CellsRead (j : Result Content Question) (text : List ℕ) (before after : List ℤ) (f : Found) (next : ℕ) (vs : List ℤ) : Type 0 where
  pub said : j ≡ Ok (held f vs)
  pub kept : after ≡ before ++ aside f vs
  pub within : next ≤ length text
  pub rest : drop next text ≡ after_line text
  pub long : 2 * length (aside f vs) ≤ next + 1

abbrev pub ReadCells : Result Content Question → List ℕ → List ℤ → List ℤ → Result FoundCells Question → Type 0
ReadCells j text before after (Ok r) = (vs : List ℤ) × CellsRead j text before after r.found r.next vs
ReadCells j text before after (Err q) = j ≡ Err q

-- a row was read from the front of a text
pub record RowRead (p : Parameters) (text : List ℕ) (before after : List ℤ) (s : ℕ) (f : Found) (next : ℕ) (vs : List ℤ) : Type 0 where
  pub said : row_line p (line_of text) ≡ Ok (with_stock s (held f vs))
  pub kept : after ≡ before ++ aside f vs
  pub within : next ≤ length text
  pub rest : drop next text ≡ after_line text
  pub long : 2 * length (aside f vs) ≤ next

abbrev pub ReadRow : Parameters → List ℕ → List ℤ → List ℤ → Result FoundRow Question → Type 0
ReadRow p text before after (Ok r) = (vs : List ℤ) × RowRead p text before after r.stock r.found r.next vs
ReadRow p text before after (Err q) = row_line p (line_of text) ≡ Err q

-- n returns were read from the front of a text and kept after those before
pub record ReturnsKept (n : ℕ) (text : List ℕ) (before after : List ℤ) (next : ℕ) (vs : List ℤ) : Type 0 where
  pub said : returns_cells n (cells (line_of text)) ≡ Ok vs
  pub kept : after ≡ before ++ vs
  pub within : next ≤ length text
  pub rest : drop next text ≡ after_line text
  pub long : 2 * n ≤ next + 1

abbrev pub KeptReturns : ℕ → List ℕ → List ℤ → List ℤ → Result ℕ Question → Type 0
KeptReturns n text before after (Ok next) = (vs : List ℤ) × ReturnsKept n text before after next vs
KeptReturns n text before after (Err q) = returns_cells n (cells (line_of text)) ≡ Err q
