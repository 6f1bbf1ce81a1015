-- How many places the lent sheets and list have. Assumes nothing.
use Rattle.std.specs.Prelude.{ℕ}
use Rattle.margin_rules.specs.declared.terms.Room.{Room}

abbrev pub room_of : ℕ → ℕ → ℕ → ℕ → Room
room_of t r k h = record { totals = t; row = r; tail = k; holdings = h }
