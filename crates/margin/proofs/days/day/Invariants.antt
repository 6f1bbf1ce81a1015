use Rattle.std.proofs.Common.{◌≡◌, length}
use Rattle.margin.specs.Days.{sheets_of}
use Rattle.margin.proofs.DayLaws.{Going}
use Rattle.margin.proofs.days.day.Given as goal

abbrev pub invariant-loop-request : goal.invariant-loop-request
invariant-loop-request g l = record {
  going : Going (g.S.ReturnSource.meaning l.source) l.initial.account.settings (length l.initial.account.table.now) l.requests l.request-index (sheets_of l.initial.totals l.initial.row l.initial.tail l.initial.holdings) l.account.table.now l.account.used l.account.settings (sheets_of l.totals l.row l.tail l.holdings);
  named : l.account.table.ghost_name ≡ l.initial.account.table.ghost_name;
}
