use Rattle.std.proofs.Common.{◌≡◌}
use Rattle.std.specs.Iterator.Adapters.{enumerate_source, enumerate_count}
use Rattle.parameter_text.specs.Cuts.{lines}
use Rattle.parameter_text.specs.Left.{lines_left}
use Rattle.margin_files.proofs.JournalSteps.{Counted}
use Rattle.margin_files.proofs.journals.check_journal.Given as goal

abbrev pub invariant-loop-before : goal.invariant-loop-before
invariant-loop-before l = record {
  can : (goal.iterator-loop-before).can_next l.before-iterator;
  ends : (goal.iterator-loop-before).is_finite l.before-iterator;
  counted : Counted (lines l.text) (lines_left (enumerate_source l.before-iterator)) l.count;
  before : l.count ≡ enumerate_count l.before-iterator;
}
