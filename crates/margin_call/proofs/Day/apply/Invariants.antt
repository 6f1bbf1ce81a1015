use Rattle.std.proofs.Common.{◌≡◌, length, map, take, drop}
use Rattle.margin_call.specs.Applied.{places_after, all_calls}
use Rattle.margin_call.proofs.Day.apply.Given as goal

abbrev pub invariant-loop-index : goal.invariant-loop-index
invariant-loop-index l = record {
  applied : places_after (length l.initial.account.table.now) (all_calls (drop l.index (map (λ v. v.items) l.journal-items))) (take l.account.used l.account.table.now) ≡ places_after (length l.initial.account.table.now) (all_calls (map (λ v. v.items) l.journal-items)) (take l.initial.account.used l.initial.account.table.now);
  room : length l.account.table.now ≡ length l.initial.account.table.now;
  settings : l.account.settings ≡ l.initial.account.settings;
}
