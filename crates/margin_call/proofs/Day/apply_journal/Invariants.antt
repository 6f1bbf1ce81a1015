use Rattle.std.proofs.Common.{◌≡◌, length, take}
use Rattle.margin_files.specs.Journals.{calls_left}
use Rattle.margin_call.specs.Applied.{places_after, journal_calls}
use Rattle.margin_call.proofs.Day.apply_journal.Given as goal

abbrev pub invariant-loop-call : goal.invariant-loop-call
invariant-loop-call l = record {
  can : (goal.iterator-loop-call).can_next l.call-iterator;
  ends : (goal.iterator-loop-call).is_finite l.call-iterator;
  applied : places_after (length l.initial.account.table.now) (calls_left l.call-iterator) (take l.account.used l.account.table.now) ≡ places_after (length l.initial.account.table.now) (journal_calls l.text) (take l.initial.account.used l.initial.account.table.now);
  room : length l.account.table.now ≡ length l.initial.account.table.now;
  settings : l.account.settings ≡ l.initial.account.settings;
}
