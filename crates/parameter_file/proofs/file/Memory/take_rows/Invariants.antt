use Rattle.std.proofs.Common.{◌≡◌, ◌-◌, length, vec_items}
use Rattle.file_rules.specs.Judged.{stock_places}
use Rattle.parameter_file.proofs.ReadingLaws.{SomeSoFar}
use Rattle.parameter_file.proofs.file.Memory.take_rows.Given as goal

abbrev pub invariant-loop-at : goal.invariant-loop-at
invariant-loop-at l =
    SomeSoFar l.rule.parameters l.text l.at l.line (vec_items l.self.kept) (vec_items l.self.table)
    × (length (vec_items l.self.table) ≡ stock_places)
    × (l.self.length ≡ l.fn.self.length)

abbrev pub decreases-loop-at : goal.decreases-loop-at
decreases-loop-at l = length l.text - l.at
