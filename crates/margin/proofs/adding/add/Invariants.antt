use Rattle.std.proofs.Common.{◌≡◌, take}
use Rattle.margin.proofs.Rows.{added}
use Rattle.margin.proofs.adding.add.Given as goal

abbrev pub invariant-loop-i : goal.invariant-loop-i
invariant-loop-i l = l.totals ≡ added l.value.dollars (take l.i l.row) l.initial.totals
