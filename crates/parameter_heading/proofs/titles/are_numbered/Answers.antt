use Rattle.std.proofs.Common.{true, sym, ◌∙◌, arith}
use Rattle.parameter_text.specs.Left.{cells_left}
use Rattle.parameter_heading.proofs.TitleSteps.{numbered_next}
use Rattle.parameter_heading.proofs.titles.are_numbered.Goals as goal

pub loop-k-preserved : goal.loop-k-preserved
loop-k-preserved c = sym (numbered_next c.loop-k.k c.args.count (omega arith) (cells_left c.loop-k.cells) c.in-Some.cell.now (cells_left c.next.new.self) true c.in-Some.ensures.steps c.if-not-is_number.ensures) ∙ c.loop-k.invariant
