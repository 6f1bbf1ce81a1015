use Rattle.std.proofs.Common.{take}
use Rattle.parameter_rows.specs.Reading.{Followed}
use Rattle.parameter_rows.proofs.usual.followed_cells.Given as goal

abbrev pub invariant-loop-value : goal.invariant-loop-value
invariant-loop-value l = Followed l.text l.rest (take l.value-index l.row)
