use Rattle.std.proofs.Common.{ℕ, List, Ok, Err, vec_items, subst}
use Rattle.std.proofs.lemmas.List.{take_rest}
use Rattle.std.proofs.lemmas.Result.{err_from_is_err_and}
use Rattle.parameter_text.specs.Cuts.{cells, line_of}
use Rattle.file_rules.specs.Judged.{content}
use Rattle.parameter_file.specs.Table.{HeadRead, ReadCells}
use Rattle.parameter_file.proofs.HeadLaws.{head_read}
use Rattle.parameter_file.proofs.rule.RowRule.read_row.Goals as goal

pub returns-in_err-rest-in-Some-default-clause-row : goal.returns-in_err-rest-in-Some-default-clause-row
returns-in_err-rest-in-Some-default-clause-row c =
    let p = c.args.self.now.parameters in
    let text = c.args.text.now in
    let head = c.in_ok-head.head in
    let start = c.in-Some-default.start in
    let K = vec_items c.args.kept.now in
    let L = vec_items c.read_cells.new.kept in
    let q = c.in_err-rest-in-Some-default.field-0.0 in
    let f = err_from_is_err_and c.from_residual-in_err-rest-in-Some-default.result c.from_residual-in_err-rest-in-Some-default.ensures.1 in
    let h = subst (HeadRead text head.stock head.kind) c.in-Some-default.is-0 c.in_ok-head.ensures in
    let e = subst (λ (l : List ℕ). ReadCells (content p head.kind (cells (line_of l))) l K L (Err q)) (take_rest text start) c.in_err-rest-in-Some-default.ensures.cells in
    rw (f.1, f.2) (head_read p text _ _ _ h.0 h.1 h.2 h.3 K L (Err q) e)

pub returns-in_ok-rest-in-Some-default-clause-row : goal.returns-in_ok-rest-in-Some-default-clause-row
returns-in_ok-rest-in-Some-default-clause-row c =
    let p = c.args.self.now.parameters in
    let text = c.args.text.now in
    let head = c.in_ok-head.head in
    let start = c.in-Some-default.start in
    let K = vec_items c.args.kept.now in
    let L = vec_items c.read_cells.new.kept in
    let r = c.in_ok-rest-in-Some-default.rest in
    let h = subst (HeadRead text head.stock head.kind) c.in-Some-default.is-0 c.in_ok-head.ensures in
    let e = subst (λ (l : List ℕ). ReadCells (content p head.kind (cells (line_of l))) l K L (Ok r)) (take_rest text start) c.in_ok-rest-in-Some-default.ensures.cells in
    head_read p text _ _ _ h.0 h.1 h.2 h.3 K L (Ok r) e
