use Rattle.std.proofs.Common.{vec_items, ◌∙◌}
use Rattle.file_rules.specs.Judged.{verdict}
use Rattle.parameter_file.specs.Checked.{rows_in}
use Rattle.parameter_file.proofs.IndexLaws.{right_said}
use Rattle.parameter_file.proofs.file.CheckedFile.right_of.Goals as goal

pub returns : goal.returns
returns c =
    let f = c.args.self.now in
    c.right.ensures ∙ right_said f.heading.parameters (vec_items f.memory.kept) (rows_in (verdict f.bytes.now)) c.args.stock c.rows_of.result c.rows_of.ensures c.args.kind
