-- The number of each refusal of a row. Assumes nothing.
use Rattle.std.specs.Prelude.{ℕ}
use Rattle.return_source.specs.declared.terms.RowRefusal.{RowRefusal}
use Rattle.return_source.specs.declared.terms.RowRefusal.TheVariants.{NoRow, ShortSheet}

-- the number that a refusal carries; neither carries anything more
abbrev pub refusal_number : RowRefusal → ℕ
refusal_number NoRow = 34
refusal_number ShortSheet = 35
