use Rattle.std.proofs.Common.{◌≡◌, ◌+◌, ◌-◌}
use Rattle.parameter_text.specs.Left.{cells_left}
use Rattle.parameter_heading.specs.Headings.{numbered}
use Rattle.parameter_heading.proofs.titles.are_numbered.Given as goal

abbrev pub invariant-loop-k : goal.invariant-loop-k
invariant-loop-k l = numbered (l.k + 1) (l.count - l.k) (cells_left l.cells) ≡ numbered 1 l.count (cells_left l.fn.cells)
