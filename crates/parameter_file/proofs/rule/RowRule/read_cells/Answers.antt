use Rattle.std.proofs.Common.{◌≡◌, ℕ, Ok, sym, ap, ◌∙◌, arith}
use Rattle.parameter_text.specs.Questions.{seen_as}
use Rattle.parameter_text.specs.Cuts.{cells, line_of}
use Rattle.parameter_rows.specs.Returns.{returns_cells}
use Rattle.parameter_rows.proofs.ReturnLaws.{returns_count}
use Rattle.file_rules.specs.declared.terms.FieldType.{FieldType}
use Rattle.file_rules.specs.Rows.{returns}
use Rattle.file_rules.specs.Judged.{content}
use Rattle.parameter_file.proofs.rule.RowRule.read_cells.Goals as goal

pub returns-in-Returns-clause-cells : goal.returns-in-Returns-clause-cells
returns-in-Returns-clause-cells c =
    let vs = c.in_ok-next.ensures.kept.0 in
    let r = c.in_ok-next.ensures.kept.1 in
    let p = c.args.self.now.parameters in
    let set = c.in-Returns.set in
    let cs = cells (line_of c.args.text.now) in
    let n = c.count.result in
    let said : content p c.args.kind cs ≡ Ok (returns set vs) = ap (λ (k : FieldType). content p k cs) c.in-Returns.is ∙ ap (λ (k : ℕ). seen_as (returns set) (returns_cells k cs)) (sym c.count.ensures.count) ∙ ap (seen_as (returns set)) r.said in
    let many = returns_count n cs vs r.said in
    (vs, record { said = said; kept = r.kept; within = r.within; rest = r.rest; long = omega (arith, many, r.long) })
