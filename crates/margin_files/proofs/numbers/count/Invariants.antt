use Rattle.margin_files.proofs.CountSteps.{CountedTo}
use Rattle.margin_files.proofs.numbers.count.Given as goal

abbrev pub invariant-loop-byte : goal.invariant-loop-byte
invariant-loop-byte l = CountedTo l.text l.byte-index l.count
