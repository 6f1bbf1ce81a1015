-- What the check has read so far. Assumes nothing.
use Rattle.std.specs.Prelude.{◌≡◌, ℕ, ◌+◌, ◌*◌, ◌≤◌, List, [], ◌∷◌, ◌++◌, length, drop, ℤ, Ok, Err, Result}
use Rattle.parameter_text.specs.declared.terms.Question.{Question}
use Rattle.parameter_text.specs.Cuts.{lines, line_of, after_line}
use Rattle.return_source.specs.declared.terms.Parameters.{Parameters}
use Rattle.parameter_heading.specs.declared.terms.Fault.{Fault}
use Rattle.parameter_file.specs.declared.terms.StockRows.{StockRows}
use Rattle.file_rules.specs.Rows.{Row}
use Rattle.file_rules.specs.Judged.{next_row, rows_from}
use Rattle.parameter_file.specs.Table.{Holds}

-- one row more was taken from the front of a text
pub record RowTaken (p : Parameters) (text : List ℕ) (before after : List ℤ) (table : List StockRows) (rows : List Row) (next : ℕ) (r : Row) : Type 0 where
  pub said : next_row p rows (line_of text) ≡ Ok r
  pub holds : Holds p after table (rows ++ r ∷ [])
  pub within : next ≤ length text
  pub rest : drop next text ≡ after_line text
  pub long : 2 * length after ≤ 2 * length before + next

abbrev pub TakenRow : Parameters → List ℕ → List ℤ → List ℤ → List StockRows → List Row → Result ℕ Question → Type 0
TakenRow p text before after table rows (Ok next) = (r : Row) × RowTaken p text before after table rows next r
TakenRow p text before after table rows (Err q) = next_row p rows (line_of text) ≡ Err q

-- whatever rows came before on the lines from 14 on
abbrev pub TakesRow : Parameters → List ℕ → ℕ → List ℤ → List ℤ → List StockRows → List StockRows → Result ℕ Question → Type 0
TakesRow p text line before after table table' r = (rows : List Row) → line ≡ 14 + length rows → Holds p before table rows → TakenRow p text before after table' rows r

-- all rows of a text
abbrev pub TakesRows : Parameters → List ℕ → List ℤ → List StockRows → Result (Unit {0}) Fault → Type 0
TakesRows p text kept table (Ok x) = (rows : List Row) × (rows_from p 14 [] (lines text) ≡ Ok rows) × Holds p kept table rows
TakesRows p text kept table (Err f) = rows_from p 14 [] (lines text) ≡ Err f
