-- The lines and cells that are still to come. Assumes nothing.
use Rattle.std.specs.Prelude.{ℕ, List}
use Rattle.std.specs.Option.{option_map}
use Rattle.parameter_text.specs.declared.cuts.Cells.{Cells}
use Rattle.parameter_text.specs.declared.cuts.Lines.{Lines}
use Rattle.parameter_text.specs.Cuts.{parts_of, lines}

abbrev pub cells_left : Cells → List (List ℕ)
cells_left c = parts_of 44 (option_map (λ x. x.now) c.rest)

abbrev pub text_left : Lines → List ℕ
text_left l = l.rest.now

abbrev pub lines_left : Lines → List (List ℕ)
lines_left l = lines (text_left l)
