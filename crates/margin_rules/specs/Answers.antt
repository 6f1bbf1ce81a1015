-- What assessing an account answers, and what the caller's sheets and list then hold. The questions are asked in the order of
-- their numbers: the places, each live instrument, gross market value, and the margins. Assumes nothing.
use Rattle.std.specs.Prelude.{ℕ, ◌+◌, ◌-◌, Bool, true, false, cond, not, ◌&&◌, List, [], ◌∷◌, ◌++◌, map, length, replicate, filter, ℤ, pos, ◌+ℤ◌, is_some, Some, None, Ok, Err, Option, Result, max, int_le, int_lt, nat_le, nat_lt, unsigned_abs}
use Rattle.amounts.specs.FirstFew.{kept}
use Rattle.return_source.specs.Meaning.{Meaning, tier_of}
use Rattle.ledger.specs.declared.terms.Kind.{Kind}
use Rattle.ledger.specs.declared.terms.Kind.TheVariants.{Stock, Dsp, Sri, Div}
use Rattle.ledger.specs.declared.terms.Instrument.{Instrument}
use Rattle.ledger.specs.declared.terms.Settings.{Settings}
use Rattle.ledger.specs.Kinds.{kind_number}
use Rattle.margin_rules.specs.declared.terms.Outcome.{Outcome}
use Rattle.margin_rules.specs.declared.terms.Holding.{Holding}
use Rattle.margin_rules.specs.declared.terms.Room.{Room}
use Rattle.margin_rules.specs.declared.terms.Assessment.{Assessment}
use Rattle.margin_rules.specs.declared.terms.AssessmentRefusal.{AssessmentRefusal}
use Rattle.margin_rules.specs.declared.terms.AssessmentRefusal.TheVariants.{Sheets, Uncovered, GrossMarketValue, Margin}
use Rattle.margin_rules.specs.Positions.{Book, all_kinds, all_stocks, gross_of}
use Rattle.margin_rules.specs.Charges.{all_rates, entitlement_of}
use Rattle.margin_rules.specs.Requirement.{figures_of}

-- the number that a refusal carries; the second carries an instrument too
abbrev pub assessment_refusal_number : AssessmentRefusal → ℕ
assessment_refusal_number Sheets = 30
assessment_refusal_number (Uncovered k x) = 31
assessment_refusal_number GrossMarketValue = 32
assessment_refusal_number Margin = 33

-- has the instrument a tier, or an entitlement of its kind?
abbrev pub is_covered : Meaning → Kind → ℕ → Bool
is_covered m Stock x = is_some (tier_of m x)
is_covered m Dsp x = is_some (entitlement_of m Dsp x)
is_covered m Sri x = is_some (entitlement_of m Sri x)
is_covered m Div x = is_some (entitlement_of m Div x)

-- the first of the stocks us that passes a test
abbrev pub first_of : (ℕ → Bool) → List ℕ → Option ℕ
first_of p [] = None
first_of p (x ∷ xs) = cond (p x) (Some x) (first_of p xs)

abbrev pub instrument_or : Kind → Option ℕ → Option Instrument → Option Instrument
instrument_or k None o = o
instrument_or k (Some x) o = Some (record { kind = k; stock = x })

-- the live instrument without tier or entitlement that has the lowest kind, then the lowest stock
abbrev pub first_uncovered : Meaning → List ℕ → (Kind → ℕ → Bool) → List Kind → Option Instrument
first_uncovered m us held [] = None
first_uncovered m us held (k ∷ ks) = instrument_or k (first_of (λ x. held k x && not (is_covered m k x)) us) (first_uncovered m us held ks)

unfoldable pub uncovered_of : Meaning → List ℕ → (Kind → ℕ → Bool) → Option Instrument
uncovered_of m us held = first_uncovered m us held all_kinds

-- Are there places enough for both sets of totals, for the longer row and for the longer tail, and not too many holdings?
abbrev pub fits : Meaning → Room → Bool
fits m l =
    nat_le (m.parameters.historical.count + m.parameters.stress.count) l.totals
    && (nat_le (max m.parameters.historical.count m.parameters.stress.count) l.row
    && (nat_le (max m.parameters.historical.tail m.parameters.stress.tail) l.tail && nat_le l.holdings 64))

abbrev pub most_gross : ℤ
most_gross = pos 20000000000

abbrev pub most_margin : ℤ
most_margin = pos 900000000

abbrev pub unless_uncovered : Option Instrument → Result Assessment AssessmentRefusal → Result Assessment AssessmentRefusal
unless_uncovered None r = r
unless_uncovered (Some i) r = Err (Uncovered i.kind i.stock)

abbrev pub unless_large : Assessment → Result Assessment AssessmentRefusal
unless_large a = cond (int_le (a.portfolio +ℤ a.flat_rate) most_margin) (Ok a) (Err Margin)

-- THE answer: all figures, or the refusal of the first question answered no
abbrev pub assessment : Meaning → Settings → Book → Room → Result Assessment AssessmentRefusal
assessment m s b l =
    cond (fits m l)
    (unless_uncovered (uncovered_of m all_stocks b.held)
    (cond (int_le (gross_of all_stocks b.market) most_gross) (unless_large (figures_of m s all_stocks all_rates b)) (Err GrossMarketValue)))
    (Err Sheets)

-- ---- what the sheets and the list hold then

-- the refusal that comes after the sheets were used
abbrev pub is_late : AssessmentRefusal → Bool
is_late Sheets = false
is_late (Uncovered k x) = false
is_late GrossMarketValue = false
is_late Margin = true

-- a sheet after an answer: zeros once it was used, else what it held
abbrev pub sheet_after : {X : Type 0} → Result Assessment AssessmentRefusal → X → List X → List X
sheet_after (Ok a) z old = replicate (length old) z
sheet_after (Err r) z old = cond (is_late r) (replicate (length old) z) old

abbrev pub no_outcome : Outcome
no_outcome = record { total = pos 0; scenario = 0 }

abbrev pub no_holding : Holding
no_holding = record { kind = Stock; stock = 0; market_value = pos 0 }

-- the lower total first, then the lower scenario
abbrev pub worse : Outcome → Outcome → Bool
worse a b = cond (int_lt a.total b.total) true (cond (int_lt b.total a.total) false (nat_lt a.scenario b.scenario))

-- the greater size first, then the lower kind, then the lower stock; two values of one instrument do not arise, and are put
-- in order by the lower value
abbrev pub larger : Holding → Holding → Bool
larger a b =
    cond (nat_lt (unsigned_abs b.market_value) (unsigned_abs a.market_value)) true (cond (nat_lt (unsigned_abs a.market_value) (unsigned_abs b.market_value)) false
    (cond (nat_lt (kind_number a.kind) (kind_number b.kind)) true (cond (nat_lt (kind_number b.kind) (kind_number a.kind)) false
    (cond (nat_lt a.stock b.stock) true (cond (nat_lt b.stock a.stock) false (int_lt a.market_value b.market_value))))))

-- the positions of one kind, and of all
abbrev pub holdings_of_kind : Book → List ℕ → Kind → List Holding
holdings_of_kind b us k = map (λ x. record { kind = k; stock = x; market_value = b.market k x }) (filter (b.held k) us)

abbrev pub holdings_of : Book → List ℕ → List Kind → List Holding
holdings_of b us [] = []
holdings_of b us (k ∷ ks) = holdings_of_kind b us k ++ holdings_of b us ks

abbrev pub padded : {X : Type 0} → ℕ → X → List X → List X
padded n z xs = xs ++ replicate (n - length xs) z

-- the holdings list of n places: the greatest positions, then spare places
unfoldable pub list_of : ℕ → List ℕ → Book → List Holding
list_of n us b = padded n no_holding (kept larger n (holdings_of b us all_kinds))

-- the holdings list after an answer; a refusal leaves it
abbrev pub list_after : Result Assessment AssessmentRefusal → Book → List Holding → List Holding
list_after (Ok a) b old = list_of (length old) all_stocks b
list_after (Err r) b old = old
