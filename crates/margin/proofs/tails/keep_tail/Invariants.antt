use Rattle.std.proofs.Common.{length, take}
use Rattle.first_few.proofs.Offers.{Offered}
use Rattle.margin_rules.specs.Answers.{worse}
use Rattle.margin.specs.Outcomes.{outcomes}
use Rattle.margin.proofs.tails.keep_tail.Given as goal

abbrev pub invariant-loop-i : goal.invariant-loop-i
invariant-loop-i l = Offered worse (length l.initial.first.places.now) (take l.i (outcomes 0 l.totals)) l.first.places.now l.first.len
