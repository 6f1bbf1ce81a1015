use Rattle.std.proofs.Common.{◌≡◌, ◌+◌, ◌≤◌}
use Rattle.std.specs.Iterator.Adapters.{enumerate_source, enumerate_count, take_source, take_count}
use Rattle.parameter_text.specs.Left.{cells_left}
use Rattle.margin_files.specs.declared.settings_file.TheConstants.{MOST_IPO}
use Rattle.margin_files.proofs.IpoSteps.{Placed}
use Rattle.margin_files.proofs.settings_file.ipo_stocks.Given as goal

abbrev pub invariant-loop-place : goal.invariant-loop-place
invariant-loop-place l =
    (goal.iterator-loop-place).can_next l.place-iterator
    × (goal.iterator-loop-place).is_finite l.place-iterator
    × (take_count (enumerate_source l.place-iterator) + enumerate_count l.place-iterator ≡ MOST_IPO + 1)
    × (enumerate_count l.place-iterator ≤ MOST_IPO)
    × Placed (cells_left l.fn.cells) (cells_left (take_source (enumerate_source l.place-iterator))) l.stocks (enumerate_count l.place-iterator)
