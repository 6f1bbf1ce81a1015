-- The kinds of instrument and their numbers. Assumes nothing.
use Rattle.std.specs.Prelude.{ℕ, Bool, cond, ◌&&◌, ◌==◌, Some, None, Option, Result, ok_or}
use Rattle.ledger.specs.declared.terms.Kind.{Kind}
use Rattle.ledger.specs.declared.terms.Kind.TheVariants.{Stock, Dsp, Sri, Div}
use Rattle.ledger.specs.declared.terms.Instrument.{Instrument}
use Rattle.ledger.specs.declared.terms.EntryRefusal.{EntryRefusal}
use Rattle.ledger.specs.declared.terms.EntryRefusal.TheVariants.{Instrument as BadInstrument}

-- the number by which an entry tells its kind
abbrev pub kind_number : Kind → ℕ
kind_number Stock = 0
kind_number Dsp = 1
kind_number Sri = 2
kind_number Div = 3

-- the kind of a number, if it is one's
abbrev pub kind_of : ℕ → Option Kind
kind_of n = cond (n == 0) (Some Stock) (cond (n == 1) (Some Dsp) (cond (n == 2) (Some Sri) (cond (n == 3) (Some Div) None)))

-- the kind of a number, or the refusal of an entry whose kind it is not
abbrev pub kind_or_refusal : ℕ → Result Kind EntryRefusal
kind_or_refusal n = ok_or (kind_of n) BadInstrument

-- two kinds are one
abbrev pub same_kind : Kind → Kind → Bool
same_kind k j = kind_number k == kind_number j

-- two instruments are one
abbrev pub same_instrument : Instrument → Instrument → Bool
same_instrument i j = same_kind i.kind j.kind && i.stock == j.stock
