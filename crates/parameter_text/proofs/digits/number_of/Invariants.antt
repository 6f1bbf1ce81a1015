use Rattle.parameter_text.proofs.DigitSteps.{SoFar}
use Rattle.parameter_text.proofs.digits.number_of.Given as goal

abbrev pub invariant-loop-b : goal.invariant-loop-b
invariant-loop-b l = SoFar l.bytes l.b-index l.number
