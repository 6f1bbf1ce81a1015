-- The questions put to a file, in their order: its length, the heading's lines, each row's stock and type, its cells,
-- forms and ranges, whether it is the first of its kind, and last whether the rows of each stock fit. Assumes nothing.
use Rattle.std.specs.Prelude.{ℕ, ◌+◌, Bool, cond, ◌&&◌, List, [], ◌∷◌, ◌++◌, length, pos, neg_ℤ, Some, None, Ok, Err, Option, Result, ◌==◌, nat_le, unsigned_abs}
use Rattle.parameter_text.specs.declared.terms.Question.{Question}
use Rattle.parameter_text.specs.declared.terms.Question.TheVariants.{Length, Cells, First, Tier}
use Rattle.parameter_text.specs.Questions.{both, and_then, seen_as}
use Rattle.parameter_text.specs.Cuts.{cells, lines, all_empty}
use Rattle.parameter_text.specs.Decimals.{decimal}
use Rattle.parameter_text.specs.Integers.{integer, stock_cell}
use Rattle.parameter_rows.specs.Returns.{returns_cells}
use Rattle.return_source.specs.declared.terms.ScenarioSet.TheVariants.{Historical, Stress}
use Rattle.return_source.specs.declared.terms.EntitlementType.{EntitlementType}
use Rattle.return_source.specs.declared.terms.EntitlementType.TheVariants.{Dsp, Sri, Div}
use Rattle.return_source.specs.declared.terms.Entitlement.{Entitlement}
use Rattle.return_source.specs.declared.terms.Parameters.{Parameters}
use Rattle.return_source.specs.Lawful.{scenario_count}
use Rattle.parameter_heading.specs.declared.terms.Fault.{Fault}
use Rattle.parameter_heading.specs.declared.terms.Heading.{Heading}
use Rattle.parameter_heading.specs.Lines.{fault_at}
use Rattle.parameter_heading.specs.Headings.{heading}
use Rattle.file_rules.specs.declared.terms.FieldType.{FieldType}
use Rattle.file_rules.specs.declared.terms.FieldType.TheVariants as field
use Rattle.file_rules.specs.Rows.{Content, returns, rate, right, unread, Row, File, repeated, fault_line, earliest}

-- the greatest length of a file, in bytes
abbrev pub most_bytes : ℕ
most_bytes = 67108864

-- stocks are 1 to 99,999: one more than the greatest
abbrev pub stock_places : ℕ
stock_places = 100000

-- the kind of row that a field type from 1 to 7 names
abbrev pub field_of : ℕ → FieldType
field_of n = cond (n == 1) (field.Returns Historical) (cond (n == 2) (field.Returns Stress) (cond (n == 3) field.FlatRate (cond (n == 7) field.Entitlement field.Unread)))

-- a flat rate, 0 to 1, in ten-thousandths
abbrev pub rate_cell : List ℕ → Result ℕ Question
rate_cell c = seen_as unsigned_abs (decimal 4 (pos 0) (pos 10000) c)

-- a price, 0 to 9,999, in ten-thousandths
abbrev pub price_cell : List ℕ → Result ℕ Question
price_cell c = seen_as unsigned_abs (decimal 4 (pos 0) (pos 99990000) c)

-- a percentage, -4 to 4, by its size, in ten-thousandths
abbrev pub percent_cell : List ℕ → Result ℕ Question
percent_cell c = seen_as unsigned_abs (decimal 4 (neg_ℤ (pos 40000)) (pos 40000) c)

abbrev pub type_of : ℕ → EntitlementType
type_of n = cond (n == 1) Dsp (cond (n == 2) Sri Div)

abbrev pub type_cell : List ℕ → Result EntitlementType Question
type_cell c = seen_as type_of (integer 1 3 c)

abbrev pub priced : ℕ → ℕ × ℕ → Entitlement
priced p q = record { price = p; short = q.0; long = q.1 }

abbrev pub right_cells : List ℕ → List ℕ → List ℕ → List ℕ → Result Content Question
right_cells t p s l = both right (type_cell t) (both priced (price_cell p) (both (λ (x y : ℕ). (x, y)) (percent_cell s) (percent_cell l)))

-- one cell, and empty ones after it
abbrev pub rate_content : List (List ℕ) → Result Content Question
rate_content [] = Err Cells
rate_content (c ∷ cs) = cond (all_empty cs) (seen_as rate (rate_cell c)) (Err Cells)

-- four cells, and empty ones after them
abbrev pub right_content : List (List ℕ) → Result Content Question
right_content [] = Err Cells
right_content (t ∷ []) = Err Cells
right_content (t ∷ p ∷ []) = Err Cells
right_content (t ∷ p ∷ s ∷ []) = Err Cells
right_content (t ∷ p ∷ s ∷ l ∷ cs) = cond (all_empty cs) (right_cells t p s l) (Err Cells)

-- the cells after stock and field type
abbrev pub content : Parameters → FieldType → List (List ℕ) → Result Content Question
content p (field.Returns w) cs = seen_as (returns w) (returns_cells (scenario_count p w) cs)
content p field.FlatRate cs = rate_content cs
content p field.Entitlement cs = right_content cs
content p field.Unread cs = Ok unread

-- the stock and the kind of a row
abbrev pub row_head : List ℕ → List ℕ → Result (ℕ × FieldType) Question
row_head c d = both (λ (s n : ℕ). (s, field_of n)) (stock_cell c) (integer 1 7 d)

abbrev pub with_stock : ℕ → Content → Row
with_stock s x = record { stock = s; content = x }

abbrev pub row_of : Parameters → List (List ℕ) → ℕ × FieldType → Result Row Question
row_of p cs h = seen_as (λ (x : Content). with_stock h.0 x) (content p h.1 cs)

abbrev pub row_cells : Parameters → List (List ℕ) → Result Row Question
row_cells p [] = Err Cells
row_cells p (c ∷ []) = Err Cells
row_cells p (c ∷ d ∷ cs) = and_then (row_head c d) (row_of p cs)

-- a line after the heading
abbrev pub row_line : Parameters → List ℕ → Result Row Question
row_line p line = row_cells p (cells line)

-- a row that no earlier one of its kind comes before
abbrev pub if_first : List Row → Row → Result Row Question
if_first done r = cond (repeated done r.stock r.content) (Err First) (Ok r)

abbrev pub next_row : Parameters → List Row → List ℕ → Result Row Question
next_row p done line = and_then (row_line p line) (if_first done)

abbrev pub row_at : {X : Type 0} → ℕ → Result X Question → Result X Fault
row_at k (Ok x) = Ok x
row_at k (Err q) = Err (fault_at k q)

-- the lines from line k on, after the rows that are done
abbrev pub rows_from : Parameters → ℕ → List Row → List (List ℕ) → Result (List Row) Fault
rows_from p k done [] = Ok done
rows_from p k done (l ∷ ls) = and_then (row_at k (next_row p done l)) (λ r. rows_from p (k + 1) (done ++ r ∷ []) ls)

abbrev pub if_even : Option ℕ → File → Result File Fault
if_even None f = Ok f
if_even (Some k) f = Err (fault_at k Tier)

-- the rows of each stock fit one another
abbrev pub fitting : File → Result File Fault
fitting f = if_even (earliest (fault_line f.rows) stock_places) f

abbrev pub sized : List ℕ → Bool
sized bytes = nat_le 1 (length bytes) && nat_le (length bytes) most_bytes

abbrev pub after_heading : Heading × List (List ℕ) → Result File Fault
after_heading h = and_then (rows_from h.0.parameters 14 [] h.1) (λ rows. fitting (record { heading = h.0; rows = rows }))

-- what a file lays down, or its first fault
abbrev pub verdict : List ℕ → Result File Fault
verdict bytes = cond (sized bytes) (and_then (heading (lines bytes)) after_heading) (Err (fault_at 0 Length))
