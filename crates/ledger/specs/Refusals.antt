-- The number of each refusal. Assumes nothing.
use Rattle.std.specs.Prelude.{ℕ}
use Rattle.ledger.specs.declared.terms.OpeningRefusal.{OpeningRefusal}
use Rattle.ledger.specs.declared.terms.OpeningRefusal.TheVariants.{Table, Settings}
use Rattle.ledger.specs.declared.terms.EntryRefusal.{EntryRefusal}
use Rattle.ledger.specs.declared.terms.EntryRefusal.TheVariants.{Number, Instrument, Size, Cancelled, Posted, Full}

-- the number that a refused opening carries
abbrev pub opening_number : OpeningRefusal → ℕ
opening_number Table = 11
opening_number Settings = 12

-- the number that a refused post or cancel carries
abbrev pub entry_refusal_number : EntryRefusal → ℕ
entry_refusal_number Number = 21
entry_refusal_number Instrument = 22
entry_refusal_number Size = 23
entry_refusal_number Cancelled = 24
entry_refusal_number Posted = 25
entry_refusal_number Full = 26
