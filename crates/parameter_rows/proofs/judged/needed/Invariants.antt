use Rattle.std.proofs.Common.{take}
use Rattle.parameter_text.specs.Left.{cells_left}
use Rattle.parameter_rows.proofs.Verdicts.{JudgedTo}
use Rattle.parameter_rows.proofs.judged.needed.Given as goal

abbrev pub invariant-loop-value : goal.invariant-loop-value
invariant-loop-value l = JudgedTo (cells_left l.initial.cells) (cells_left l.cells) l.value-index l.failed (take l.value-index l.row)
