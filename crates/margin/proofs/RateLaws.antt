-- The rates of the flat tier: those that are visited, and all rates.
use Rattle.std.proofs.Common.{◌≡◌, ℕ, ◌*◌, ◌≤◌, Bool, true, false, cond, ◌&&◌, ◌||◌, eqb, List, [], ◌∷◌, ℤ, pos, ◌*ℤ◌, IfSome, Some, None, Option, sym, refl, ap, ◌∙◌, subst, inl, inr, arith, eqb-true}
use lib.IntN.{*ℤ-zero}
use Rattle.std.specs.Int.{int_max}
use Rattle.std.specs.List.{AllByRecursion as All}
use Rattle.std.proofs.lemmas.Bool.{cases_Bool}
use Rattle.amounts.specs.Sums.{sum_of, when}
use Rattle.amounts.specs.Sets.{In, Apart}
use Rattle.amounts.specs.Charges.{long, short}
use Rattle.amounts.proofs.Support.{sum_zero, apart_counting, in_counting}
use Rattle.return_source.specs.Meaning.{Meaning, tier_of}
use Rattle.return_source.specs.Lawful.{Lawful}
use Rattle.ledger.specs.declared.terms.Kind.TheVariants.{Stock}
use Rattle.ledger.specs.declared.terms.Settings.{Settings}
use Rattle.ledger.specs.declared.terms.Place.{Place}
use Rattle.ledger.specs.declared.terms.Place.TheVariants.{Free, Live, Cancelled}
use Rattle.ledger.specs.Kinds.{same_kind}
use Rattle.margin_rules.specs.Positions.{all_stocks, market_in, held_in, any_place}
use Rattle.margin_rules.specs.Portfolio.{is_flat, side_of}
use Rattle.margin_rules.specs.Charges.{all_rates, is_rate, at_rate, flat_of}
use Rattle.margin.specs.Visits.{stock_in, is_key, any_key, visited, flat_rate_of, rate_by, rate_in}
use Rattle.margin.proofs.Keys.{true_false, keys_any, keys_sum}
use Rattle.margin.proofs.Support.{market_none}
use Rattle.margin.proofs.Visiting.{flat_rates, sum_filter, filter_all}
use Rattle.margin.proofs.SideLaws.{OneSide, long_side, short_side}

pub rates_apart : Apart all_rates
unfolding all_rates
rates_apart = apart_counting 0 10001

pub in_rates : (q : ℕ) → q ≤ 10000 → In q all_rates
unfolding all_rates
in_rates q h = in_counting 0 10001 q (omega arith) (omega arith)

-- a rate that a stock has in the flat tier is one of all
module _ (m : Meaning) (ok : Lawful m) where
  small_or_none : (q : ℕ) (o : Option ℕ) → IfSome o (λ r. r ≤ 10000) → is_key q o ≡ true → q ≤ 10000
  small_or_none q None h e = absurd (true_false (sym e))
  small_or_none q (Some r) h e = omega (arith, eqb-true q r e, h)

  stock_rate : (x q : ℕ) → is_key q (flat_rate_of m x) ≡ true → q ≤ 10000
  stock_rate x q = go (is_flat (tier_of m x))
    where
      go : (b : Bool) → is_key q (cond b (m.rate x) None) ≡ true → q ≤ 10000
      go true e = small_or_none q (m.rate x) (ok.rates x) e
      go false e = absurd (true_false (sym e))

  by_rate : (o : Option ℕ) (q : ℕ) → is_key q (rate_by m o) ≡ true → q ≤ 10000
  by_rate None q e = absurd (true_false (sym e))
  by_rate (Some x) q e = stock_rate x q e

  pub any_rate : (q : ℕ) (ps : List Place) → any_key (rate_in m) q ps ≡ true → q ≤ 10000
  any_rate q [] e = absurd (true_false (sym e))
  any_rate q (p ∷ ps) e = go (is_key q (rate_in m p)) refl e (any_rate q ps)
    where
      go : (b : Bool) → is_key q (rate_in m p) ≡ b → (b || any_key (rate_in m) q ps) ≡ true → (any_key (rate_in m) q ps ≡ true → q ≤ 10000) → q ≤ 10000
      go true h k f = by_rate (stock_in Stock p) q h
      go false h k f = f k

  -- every rate that is visited is one of all
  pub rates_small : (ps : List Place) → All (λ q. q ≤ 10000) (flat_rates m ps)
  rates_small ps = from_in (flat_rates m ps) (λ q i. any_rate q ps (keys_any (rate_in m) q ps (subst (λ l. In q l) (filter_all (visited (rate_in m) ps)) i)))
    where
      from_in : (xs : List ℕ) → ((q : ℕ) → In q xs → q ≤ 10000) → All (λ q. q ≤ 10000) xs
      from_in [] h = tt
      from_in (x ∷ xs) h = (h x (inl refl), from_in xs (λ q i. h q (inr i)))

-- a stock that is held at a rate has that rate among the places
module _ (m : Meaning) (q x : ℕ) where
  key_rate : (o : Option ℕ) → is_key q o ≡ is_rate q o
  key_rate None = refl
  key_rate (Some r) = refl

  rate_key : is_key q (flat_rate_of m x) ≡ at_rate m q x
  rate_key = go (is_flat (tier_of m x))
    where
      go : (b : Bool) → is_key q (cond b (m.rate x) None) ≡ (b && is_rate q (m.rate x))
      go true = key_rate (m.rate x)
      go false = refl

  or_more : (b c : Bool) → c ≡ true → (b || c) ≡ true
  or_more true c e = refl
  or_more false c e = e

  pub held_rate : (ps : List Place) → at_rate m q x ≡ true → any_place (held_in Stock x) ps ≡ true → any_key (rate_in m) q ps ≡ true
  held_rate [] a h = absurd (true_false (sym h))
  held_rate (Free ∷ ps) a h = held_rate ps a h
  held_rate (Live n e ∷ ps) a h = go (same_kind Stock e.instrument.kind) (eqb x e.instrument.stock) refl h (held_rate ps a)
    where
      go : (b c : Bool) → eqb x e.instrument.stock ≡ c → ((b && c) || any_place (held_in Stock x) ps) ≡ true → (any_place (held_in Stock x) ps ≡ true → any_key (rate_in m) q ps ≡ true) → (is_key q (rate_by m (cond b (Some e.instrument.stock) None)) || any_key (rate_in m) q ps) ≡ true
      go true true s k f = ap (λ b. b || any_key (rate_in m) q ps) (ap (λ y. is_key q (flat_rate_of m y)) (sym (eqb-true x e.instrument.stock s)) ∙ rate_key ∙ a)
      go true false s k f = or_more (is_key q (flat_rate_of m e.instrument.stock)) (any_key (rate_in m) q ps) (f k)
      go false c s k f = f k
  held_rate (Cancelled n ∷ ps) a h = held_rate ps a h

module _ (m : Meaning) (ps : List Place) where
  abbrev mv : ℕ → ℤ
  mv x = sum_of (market_in Stock x) ps

  -- no place of a rate, no side
  part_none : (g : ℤ → ℤ) → OneSide g → (q : ℕ) → any_key (rate_in m) q ps ≡ false → sum_of (λ x. when (at_rate m q x) (g (mv x))) all_stocks ≡ pos 0
  part_none g z q e = sum_zero (λ x. when (at_rate m q x) (g (mv x))) all_stocks (λ x i. go x (at_rate m q x) refl)
    where
      away : (x : ℕ) → at_rate m q x ≡ true → any_place (held_in Stock x) ps ≡ false
      away x a = elim (cases_Bool (any_place (held_in Stock x) ps)) [ inl h ↦ absurd (true_false (sym (held_rate m q x ps a h) ∙ e)) | inr h ↦ h ]

      go : (x : ℕ) (b : Bool) → at_rate m q x ≡ b → when b (g (mv x)) ≡ pos 0
      go x true a = ap g (market_none Stock x ps (away x a)) ∙ z.none
      go x false a = refl

  pub side_none : (q : ℕ) → any_key (rate_in m) q ps ≡ false → side_of all_stocks (at_rate m q) mv ≡ pos 0
  unfolding side_of
  side_none q e = λ i. int_max (part_none long long_side q e i) (part_none short short_side q e i)

-- what the sub-categories cost
module _ (m : Meaning) (s : Settings) (xs : List Place) where
  abbrev pub cost : ℕ → ℤ
  cost q = pos (q * s.multiplier) *ℤ side_of all_stocks (at_rate m q) (λ x. sum_of (market_in Stock x) xs)

  -- what the rates that are visited cost is what all rates cost
  pub rates_cost : Lawful m → sum_of cost (flat_rates m xs) ≡ flat_of m s all_stocks all_rates (λ x. sum_of (market_in Stock x) xs)
  unfolding flat_of
  rates_cost ok =
      sum_filter (λ q. true) cost (visited (rate_in m) xs)
      ∙ keys_sum (rate_in m) xs all_rates rates_apart (λ q h. in_rates q (any_rate m ok q xs h)) cost
      (λ q h. ap (λ w. pos (q * s.multiplier) *ℤ w) (side_none m xs q h) ∙ *ℤ-zero (pos (q * s.multiplier)))
