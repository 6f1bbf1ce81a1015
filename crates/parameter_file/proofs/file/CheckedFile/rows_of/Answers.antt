use Rattle.std.proofs.Common.{vec_items, sym, subst}
use Rattle.file_rules.specs.Judged.{verdict}
use Rattle.parameter_file.specs.Checked.{rows_in}
use Rattle.parameter_file.specs.Table.{Says}
use Rattle.parameter_file.proofs.IndexLaws.{index_says}
use Rattle.parameter_file.proofs.file.CheckedFile.rows_of.Goals as goal

pub returns : goal.returns
returns c =
    let f = c.args.self.now in
    subst (Says f.heading.parameters (vec_items f.memory.kept) (rows_in (verdict f.bytes.now)) c.args.stock) (sym c.rows_of.ensures) (index_says f.bytes.now (vec_items f.memory.kept) (vec_items f.memory.table) f.heading f.passed f.heads f.size f.index c.args.stock)
