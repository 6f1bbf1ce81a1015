use Rattle.std.proofs.Common.{◌≡◌, ℕ, ◌+◌, ◌-◌, List, take, drop, ℤ, Some, vec_items, ap, ◌∙◌, arith}
use Rattle.file_rules.specs.Judged.{verdict}
use Rattle.return_source.specs.declared.terms.Scenarios.{Scenarios}
use Rattle.return_source.specs.Lawful.{scenario_count}
use Rattle.parameter_file.specs.Checked.{rows_in}
use Rattle.parameter_file.proofs.IndexLaws.{returns_said, none_at, some_at}
use Rattle.parameter_file.proofs.file.CheckedFile.row_of.Goals as goal

pub returns-in_err-start : goal.returns-in_err-start
returns-in_err-start c =
    let f = c.args.self.now in
    let w = c.args.set in
    let rows = rows_in (verdict f.bytes.now) in
    let said = returns_said f.heading.parameters (vec_items f.memory.kept) rows c.args.stock c.rows_of.result c.rows_of.ensures w in
    rw c.from_residual.ensures (none_at _ _ _ _ said c.in_err-start.ensures)

pub returns : goal.returns
returns c =
    let f = c.args.self.now in
    let w = c.args.set in
    let K = vec_items f.memory.kept in
    let start = c.in_ok-start.start in
    let n = c.scenarios-n.result.count in
    let rows = rows_in (verdict f.bytes.now) in
    let said = returns_said f.heading.parameters K rows c.args.stock c.rows_of.result c.rows_of.ensures w in
    let same : start + n - start ≡ scenario_count f.heading.parameters w = omega (arith, ap (λ (x : Scenarios). x.count) c.scenarios-n.ensures) in
    ap (λ (l : List ℤ). Some (take (start + n - start) (drop start l))) c.as_slice-kept.ensures.value
    ∙ ap (λ (k : ℕ). Some (take k (drop start K))) same
    ∙ (some_at _ _ _ _ said start c.in_ok-start.ensures).0
