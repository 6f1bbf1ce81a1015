-- The positions of an account: for each kind and stock the sum of its live entries. A position's market value alone decides
-- its side. Every figure of an assessment is a function of these sums. Assumes nothing.
use Rattle.std.specs.Prelude.{ℕ, Bool, false, cond, ◌&&◌, ◌||◌, List, [], ◌∷◌, ℤ, pos, ◌-ℤ◌, unsigned_abs, ◌==◌}
use Rattle.std.specs.List.{range_with_len}
use Rattle.amounts.specs.Sums.{sum_of}
use Rattle.amounts.specs.Sets.{fold_right}
use Rattle.ledger.specs.declared.terms.Kind.{Kind}
use Rattle.ledger.specs.declared.terms.Kind.TheVariants.{Stock, Dsp, Sri, Div}
use Rattle.ledger.specs.declared.terms.Entry.{Entry}
use Rattle.ledger.specs.declared.terms.Place.{Place}
use Rattle.ledger.specs.declared.terms.Place.TheVariants.{Free, Live, Cancelled}
use Rattle.ledger.specs.Kinds.{same_kind}

-- all kinds of instrument, and those that are entitlements
abbrev pub all_kinds : List Kind
all_kinds = Stock ∷ Dsp ∷ Sri ∷ Div ∷ []

abbrev pub entitlement_kinds : List Kind
entitlement_kinds = Dsp ∷ Sri ∷ Div ∷ []

-- all stocks, 1 to 99,999; shut, so that nothing computes with a hundred thousand of them
unfoldable pub all_stocks : List ℕ
all_stocks = range_with_len 1 99999

-- is the entry one of this kind and stock?
abbrev pub is_of : Kind → ℕ → Entry → Bool
is_of k x e = same_kind k e.instrument.kind && x == e.instrument.stock

-- what a place adds to the market value of an instrument, in dollars
abbrev pub market_in : Kind → ℕ → Place → ℤ
market_in k x Free = pos 0
market_in k x (Live n e) = cond (is_of k x e) e.market_value (pos 0)
market_in k x (Cancelled n) = pos 0

-- does a place hold a live entry of an instrument?
abbrev pub held_in : Kind → ℕ → Place → Bool
held_in k x Free = false
held_in k x (Live n e) = is_of k x e
held_in k x (Cancelled n) = false

-- what a place adds to the mark: its market value less its contract value
abbrev pub mark_in : Place → ℤ
mark_in Free = pos 0
mark_in (Live n e) = e.market_value -ℤ e.contract_value
mark_in (Cancelled n) = pos 0

-- does any place pass a test?
abbrev pub any_place : (Place → Bool) → List Place → Bool
any_place f t = fold_right (λ p b. f p || b) false t

-- the positions: market value by kind and stock, which instruments are held, and all market value less all contract value
pub record Book : Type 0 where
  pub market : Kind → ℕ → ℤ
  pub held : Kind → ℕ → Bool
  pub mark : ℤ

abbrev pub book : List Place → Book
book t = record { market = λ k x. sum_of (market_in k x) t; held = λ k x. any_place (held_in k x) t; mark = sum_of mark_in t }

-- gross market value: the sizes of all positions' market values
unfoldable pub gross_of : List ℕ → (Kind → ℕ → ℤ) → ℤ
gross_of us mv = sum_of (λ k. sum_of (λ x. pos (unsigned_abs (mv k x))) us) all_kinds
