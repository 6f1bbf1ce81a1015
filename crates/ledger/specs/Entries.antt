-- What an entry is refused for by itself: its number, its instrument, its sizes. Assumes nothing.
use Rattle.std.specs.Prelude.{ℕ, Bool, cond, ◌&&◌, ℤ, Some, None, Ok, Err, Option, Result, nat_le, unsigned_abs}
use Rattle.ledger.specs.declared.terms.Kind.{Kind}
use Rattle.ledger.specs.declared.terms.Instrument.{Instrument}
use Rattle.ledger.specs.declared.terms.Posting.{Posting}
use Rattle.ledger.specs.declared.terms.Entry.{Entry}
use Rattle.ledger.specs.declared.terms.EntryRefusal.{EntryRefusal}
use Rattle.ledger.specs.declared.terms.EntryRefusal.TheVariants.{Size, Instrument as BadInstrument}
use Rattle.ledger.specs.Kinds.{kind_of}
use Rattle.ledger.specs.Settings.{between}

-- an entry's number: 1 to 999,999,999
abbrev pub numbered : ℕ → Bool
numbered n = between 1 999999999 n

-- a stock's number: 1 to 99,999
abbrev pub stocked : ℕ → Bool
stocked s = between 1 99999 s

-- a quantity or a value is at most 20,000,000,000 in size
abbrev pub small : ℤ → Bool
small z = nat_le (unsigned_abs z) 20000000000

-- a quantity, a contract value and a market value are all small
abbrev pub sized : ℤ → ℤ → ℤ → Bool
sized q c m = small q && (small c && small m)

abbrev pub instrument_by : ℕ → Option Kind → Option Instrument
instrument_by s None = None
instrument_by s (Some k) = cond (stocked s) (Some (record { kind = k; stock = s })) None

-- the instrument of a kind's number and a stock's number, if both are ones
abbrev pub instrument_of : ℕ → ℕ → Option Instrument
instrument_of k s = instrument_by s (kind_of k)

abbrev pub entry_by : Option Instrument → ℤ → ℤ → ℤ → Result Entry EntryRefusal
entry_by None q c m = Err BadInstrument
entry_by (Some i) q c m = cond (sized q c m) (Ok (record { instrument = i; quantity = q; contract_value = c; market_value = m })) (Err Size)

-- the entry that is posted: first its kind and stock are asked, then its three sizes
abbrev pub entry_of : Posting → Result Entry EntryRefusal
entry_of p = entry_by (instrument_of p.kind p.stock) p.quantity p.contract_value p.market_value
