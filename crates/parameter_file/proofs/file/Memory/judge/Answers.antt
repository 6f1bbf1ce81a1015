use Rattle.std.proofs.Common.{◌≡◌, ℕ, ◌≤◌, false, eqb, List, length, get_or, Some, None, vec_items, sym, ap, ◌∙◌, arith}
use Rattle.std.proofs.lemmas.Bool.{eqb-false}
use Rattle.parameter_text.specs.Cuts.{lines}
use Rattle.parameter_file.specs.declared.terms.StockRows.{StockRows}
use Rattle.file_rules.specs.Rows.{earliest}
use Rattle.parameter_file.specs.Table.{no_rows, fault_in}
use Rattle.file_rules.proofs.FileLaws.{files_pass}
use Rattle.parameter_file.proofs.JudgingLaws.{tier_fault, all_passed}
use Rattle.parameter_file.proofs.file.Memory.judge.Goals as goal

not_none : (n : ℕ) → false ≡ eqb n 0 → 1 ≤ n
not_none n e = let z = eqb-false n 0 (sym e) in omega (arith, z)

pub returns-then-is_empty-clause-law : goal.returns-then-is_empty-clause-law
returns-then-is_empty-clause-law c = files_pass

pub returns-in_err-head-clause-law : goal.returns-in_err-head-clause-law
returns-in_err-head-clause-law c = files_pass

pub returns-in_err-take_rows-clause-law : goal.returns-in_err-take_rows-clause-law
returns-in_err-take_rows-clause-law c = files_pass

pub returns-in-Some-clause-law : goal.returns-in-Some-clause-law
returns-in-Some-clause-law c = files_pass

pub returns-in-None-clause-law : goal.returns-in-None-clause-law
returns-in-None-clause-law c = files_pass

pub returns-in-Some-clause-file : goal.returns-in-Some-clause-file
returns-in-Some-clause-file c =
    let bytes = c.args.bytes.now in
    let T = vec_items c.take_rows.new.self.table in
    let r = c.in_ok-take_rows.ensures in
    let found : Some c.in-Some.line ≡ earliest (λ s. fault_in (get_or T s no_rows)) (length T) = c.in-Some.ensures ∙ ap (λ (l : List StockRows). earliest (λ s. fault_in (get_or l s no_rows)) (length l)) c.as_slice.ensures.value in
    tier_fault bytes (not_none (length bytes) c.if-is_empty.ensures) (omega (arith, c.if-bytes-gt-MOST_BYTES.false)) c.in_ok-head.head (lines c.in_ok-head.text.now) c.in_ok-head.ensures.heading (vec_items c.take_rows.new.self.kept) T r.places r.rows.0 r.rows.1 r.rows.2 c.in-Some.line found

pub returns-in-None-clause-file : goal.returns-in-None-clause-file
returns-in-None-clause-file c =
    let bytes = c.args.bytes.now in
    let T = vec_items c.take_rows.new.self.table in
    let r = c.in_ok-take_rows.ensures in
    let found : None ≡ earliest (λ s. fault_in (get_or T s no_rows)) (length T) = c.in-None.ensures ∙ ap (λ (l : List StockRows). earliest (λ s. fault_in (get_or l s no_rows)) (length l)) c.as_slice.ensures.value in
    all_passed bytes (not_none (length bytes) c.if-is_empty.ensures) (omega (arith, c.if-bytes-gt-MOST_BYTES.false)) c.in_ok-head.head (lines c.in_ok-head.text.now) c.in_ok-head.ensures.heading (vec_items c.take_rows.new.self.kept) T r.places r.rows.0 r.rows.1 r.rows.2 found
