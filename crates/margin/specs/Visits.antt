-- How the code goes over the positions of a table: each key, as a stock of one kind or a flat rate, is visited at the last of
-- the live entries that have it. Assumes nothing.
use Rattle.std.specs.Prelude.{ℕ, Bool, false, cond, ◌||◌, List, [], ◌∷◌, Some, None, Option, ◌==◌}
use Rattle.return_source.specs.Meaning.{Meaning, tier_of}
use Rattle.ledger.specs.declared.terms.Kind.{Kind}
use Rattle.ledger.specs.declared.terms.Kind.TheVariants.{Stock}
use Rattle.ledger.specs.declared.terms.Place.{Place}
use Rattle.ledger.specs.declared.terms.Place.TheVariants.{Free, Live, Cancelled}
use Rattle.ledger.specs.Kinds.{same_kind}
use Rattle.margin_rules.specs.Portfolio.{is_flat}

-- the stock of a live entry of a kind
abbrev pub stock_in : Kind → Place → Option ℕ
stock_in k Free = None
stock_in k (Live n e) = cond (same_kind k e.instrument.kind) (Some e.instrument.stock) None
stock_in k (Cancelled n) = None

abbrev pub is_key : ℕ → Option ℕ → Bool
is_key q None = false
is_key q (Some r) = q == r

-- does any place have this key?
abbrev pub any_key : (Place → Option ℕ) → ℕ → List Place → Bool
any_key key q [] = false
any_key key q (p ∷ ps) = is_key q (key p) || any_key key q ps

-- a key, if it does not come again later
abbrev pub last_key : Option ℕ → (ℕ → Bool) → Option ℕ
last_key None again = None
last_key (Some q) again = cond (again q) None (Some q)

-- a key, if it passes a test
abbrev pub only : (ℕ → Bool) → Option ℕ → Option ℕ
only p None = None
only p (Some x) = cond (p x) (Some x) None

abbrev pub onto : Option ℕ → List ℕ → List ℕ
onto None l = l
onto (Some q) l = q ∷ l

-- all keys, each at the last of its places
abbrev pub visited : (Place → Option ℕ) → List Place → List ℕ
visited key [] = []
visited key (p ∷ ps) = onto (last_key (key p) (λ q. any_key key q ps)) (visited key ps)

-- the rate of a live entry's stock, where it stands in the flat tier
abbrev pub flat_rate_of : Meaning → ℕ → Option ℕ
flat_rate_of m x = cond (is_flat (tier_of m x)) (m.rate x) None

abbrev pub rate_by : Meaning → Option ℕ → Option ℕ
rate_by m None = None
rate_by m (Some x) = flat_rate_of m x

abbrev pub rate_in : Meaning → Place → Option ℕ
rate_in m p = rate_by m (stock_in Stock p)
