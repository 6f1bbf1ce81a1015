use Rattle.margin_files.proofs.NumberSteps.{SoFar}
use Rattle.margin_files.proofs.numbers.whole_size.Given as goal

abbrev pub invariant-loop-digit : goal.invariant-loop-digit
invariant-loop-digit l = SoFar l.digits l.digit-index l.size
