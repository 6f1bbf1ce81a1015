-- One row more, and all rows. Assumes nothing.
use Rattle.std.proofs.Common.{◌≡◌, ℕ, ◌+◌, ◌*◌, ◌<◌, ◌≤◌, true, false, List, [], ◌∷◌, ◌++◌, length, get_or, drop, set, ℤ, is_ok, Ok, Err, Result, sym, refl, ap, ◌∙◌, subst, arith}
use Rattle.std.specs.List.{prefix_len}
use Rattle.std.proofs.lemmas.List.{length-append, length-drop, drop-drop}
use Rattle.std.proofs.lemmas.Bool.{true≢false, false≢true, cond-true, cond-false}
use Rattle.parameter_text.specs.declared.terms.Question.{Question}
use Rattle.parameter_text.specs.declared.terms.Question.TheVariants.{First}
use Rattle.parameter_text.specs.Questions.{and_then}
use Rattle.parameter_text.specs.Cuts.{lines, within_line, line_of, after_line}
use Rattle.parameter_text.proofs.LineLaws.{lines_step}
use Rattle.parameter_rows.proofs.ReturnLaws.{spell_count}
use Rattle.return_source.specs.declared.terms.Parameters.{Parameters}
use Rattle.parameter_heading.specs.declared.terms.Fault.{Fault}
use Rattle.parameter_heading.specs.Lines.{fault_at}
use Rattle.parameter_file.specs.declared.terms.Found.{Found}
use Rattle.parameter_file.specs.declared.terms.Found.TheVariants as found
use Rattle.parameter_file.specs.declared.terms.StockRows.{StockRows}
use Rattle.file_rules.specs.Rows.{Row, repeated}
use Rattle.file_rules.specs.Judged.{stock_places, with_stock, row_line, if_first, next_row, row_at, rows_from}
use Rattle.file_rules.specs.Laid.{LaysContent}
use Rattle.parameter_file.specs.Table.{no_rows, held, aside, taken, noted, Holds, Blank, RowRead}
use Rattle.parameter_file.specs.Reading.{RowTaken}
use Rattle.file_rules.proofs.RowLaws.{passes_row}
use Rattle.parameter_file.proofs.TableLaws.{Whole, taken_is, holds_more, holds_none}

-- a row's stock has a place
pub stock_within : (p : Parameters) (line : List ℕ) (r : Row) → row_line p line ≡ Ok r → r.stock < stock_places
stock_within p line r h = let l = passes_row p line r h in omega (arith, l.4.stock.number_of.at_most)

laid_whole : (p : Parameters) (number : ℕ) (cs : List (List ℕ)) (f : Found) (vs : List ℤ) → LaysContent p number cs (held f vs) → Whole p f vs
laid_whole p number cs (found.Returns w) vs (needed, spare, l) = sym (spell_count needed vs l.spelled) ∙ l.many
laid_whole p number cs (found.Rate n) vs l = tt
laid_whole p number cs (found.Right t e) vs l = tt
laid_whole p number cs found.Unread vs l = tt

module _ (p : Parameters) (text : List ℕ) (before after : List ℤ) (table : List StockRows) (rows : List Row) (s : ℕ) (f : Found) (next : ℕ) (vs : List ℤ) (places : length table ≡ stock_places) (h : Holds p before table rows) (r : RowRead p text before after s f next vs) where
  inside : s < length table
  inside = omega (arith, stock_within p (line_of text) (with_stock s (held f vs)) r.said)

  seen : taken (get_or table s no_rows) f ≡ repeated rows s (held f vs)
  seen = taken_is p before rows s (get_or table s no_rows) f vs (h s inside)

  pub not_first : taken (get_or table s no_rows) f ≡ true → next_row p rows (line_of text) ≡ Err First
  not_first t = ap (λ (x : Result Row Question). and_then x (if_first rows)) r.said ∙ cond-true (repeated rows s (held f vs)) _ _ (sym seen ∙ t)

  pub row_taken : (k : ℕ) → k ≡ 14 + length rows → taken (get_or table s no_rows) f ≡ false → RowTaken p text before after (set table s (noted (get_or table s no_rows) f (length before) k)) rows next (with_stock s (held f vs))
  row_taken k e t =
      let x = held f vs in
      let whole = laid_whole p _ _ f vs (passes_row p (line_of text) (with_stock s x) r.said).4.content in
      record {
        said = ap (λ (y : Result Row Question). and_then y (if_first rows)) r.said ∙ cond-false (repeated rows s x) _ _ (sym seen ∙ t);
        holds = subst (λ (l : List ℤ). Holds p l (set table s (noted (get_or table s no_rows) f (length before) k)) (rows ++ with_stock s x ∷ [])) (sym r.kept) (holds_more p before table rows s f vs k h inside e whole t);
        within = r.within;
        rest = r.rest;
        long = omega (arith, ap length r.kept, length-append before (aside f vs), r.long);
      }

-- the rows taken so far, and what is left
pub record SoFar (p : Parameters) (text : List ℕ) (at line : ℕ) (kept : List ℤ) (table : List StockRows) (rows : List Row) : Type 0 where
  pub within : at ≤ length text
  pub number : line ≡ 14 + length rows
  pub few : length rows ≤ at
  pub size : 2 * length kept ≤ at
  pub holds : Holds p kept table rows
  pub said : rows_from p 14 [] (lines text) ≡ rows_from p line rows (lines (drop at text))

abbrev pub SomeSoFar : Parameters → List ℕ → ℕ → ℕ → List ℤ → List StockRows → Type 0
SomeSoFar p text at line kept table = (rows : List Row) × SoFar p text at line kept table rows

pub so_far_none : (p : Parameters) (text : List ℕ) (kept : List ℤ) (table : List StockRows) → kept ≡ [] → Blank table → SomeSoFar p text 0 14 kept table
so_far_none p text kept table e b = ([], record { within = omega arith; number = refl; few = omega arith; size = omega (arith, ap length e); holds = subst (λ (l : List ℤ). Holds p l table []) (sym e) (holds_none p table b); said = refl })

module _ (p : Parameters) (text : List ℕ) (at line : ℕ) (kept : List ℤ) (table : List StockRows) (some : at < length text) (s : SomeSoFar p text at line kept table) where
  abbrev left : List ℕ
  left = drop at text

  next_line : lines left ≡ line_of left ∷ lines (after_line left)
  next_line = lines_step left (omega (arith, length-drop at text))

  said_next : rows_from p 14 [] (lines text) ≡ and_then (row_at line (next_row p s.0 (line_of left))) (λ (r : Row). rows_from p (line + 1) (s.0 ++ r ∷ []) (lines (after_line left)))
  said_next = s.1.said ∙ ap (rows_from p line s.0) next_line

  pub row_fault : (q : Question) → next_row p s.0 (line_of left) ≡ Err q → rows_from p 14 [] (lines text) ≡ Err (fault_at line q)
  row_fault q e = said_next ∙ ap (λ (x : Result Row Question). and_then (row_at line x) (λ (r : Row). rows_from p (line + 1) (s.0 ++ r ∷ []) (lines (after_line left)))) e

  module _ (next : ℕ) (kept' : List ℤ) (table' : List StockRows) (r : Row) (t : RowTaken p left kept kept' table' s.0 next r) where
    pub further : 1 ≤ next
    further = omega (arith, ap length t.rest, length-drop next left, length-drop at text, length-drop (prefix_len within_line left + 1) left, t.within)

    pub so_far_more : SomeSoFar p text (at + next) (line + 1) kept' table'
    so_far_more =
        let on = further in
        let size = length-append s.0 (r ∷ []) in
        let rest : lines (after_line left) ≡ lines (drop (at + next) text) = ap lines (sym t.rest ∙ drop-drop next at text) in (
          s.0 ++ r ∷ [],
          record {
            within = omega (arith, t.within, length-drop at text);
            number = omega (arith, s.1.number, size);
            few = omega (arith, s.1.few, size);
            size = omega (arith, s.1.size, t.long);
            holds = t.holds;
            said = said_next
                ∙ ap (λ (x : Result Row Question). and_then (row_at line x) (λ (q : Row). rows_from p (line + 1) (s.0 ++ q ∷ []) (lines (after_line left)))) t.said
                ∙ ap (rows_from p (line + 1) (s.0 ++ r ∷ [])) rest;
          },
        )

-- the fault of a line is the question that was judged on it

abbrev number_in : Result ℕ Fault → ℕ
number_in (Ok n) = n
number_in (Err f) = 0

abbrev fault_again : Result ℕ Fault → Result (List Row) Fault
fault_again (Ok n) = Ok []
fault_again (Err f) = Err f

pub row_passed : (r : Result ℕ Question) (line n : ℕ) → Ok n ≡ row_at line r → r ≡ Ok n
row_passed (Ok x) line n e = sym (ap (λ (y : Result ℕ Fault). Ok (number_in y)) e)
row_passed (Err q) line n e = absurd (true≢false (ap is_ok e))

pub row_failed : (r : Result ℕ Question) (line : ℕ) (f : Fault) → Err f ≡ row_at line r → (q : Question) × (r ≡ Err q) × (◌≡◌ {A = Result (List Row) Fault} (Err f) (Err (fault_at line q)))
row_failed (Ok x) line f e = absurd (false≢true (ap is_ok e))
row_failed (Err q) line f e = (q, refl, ap fault_again e)
