-- What a pass over the stocks of a kind visits is what counts of all stocks.
use Rattle.std.proofs.Common.{◌≡◌, ℕ, zero, suc, ◌<◌, ◌≤◌, Bool, true, false, cond, ◌&&◌, ◌||◌, eqb, leb, List, [], ◌∷◌, length, get_or, ℤ, pos, ◌+ℤ◌, nat_abs, Some, None, sym, refl, ap, ◌∙◌, arith, eqb-true}
use Rattle.std.proofs.lemmas.Int.{ints}
use Rattle.std.proofs.lemmas.Bool.{and_parts, leb-true}
use Rattle.amounts.specs.Sums.{sum_of}
use Rattle.amounts.specs.Sets.{In, Apart, Within}
use Rattle.amounts.proofs.Support.{apart_counting, in_counting}
use Rattle.ledger.specs.declared.terms.Kind.{Kind}
use Rattle.ledger.specs.declared.terms.Entry.{Entry}
use Rattle.ledger.specs.declared.terms.Place.{Place}
use Rattle.ledger.specs.declared.terms.Place.TheVariants.{Free, Live, Cancelled}
use Rattle.ledger.specs.Kinds.{same_kind}
use Rattle.ledger.specs.Entries.{numbered, stocked, small, sized}
use Rattle.ledger.specs.Table.{sound, sound_place, sound_entry}
use Rattle.margin_rules.specs.Positions.{all_stocks, is_of, market_in, held_in, any_place}
use Rattle.margin.specs.Visits.{stock_in, is_key, any_key, visited}
use Rattle.margin.proofs.Keys.{true_false, keys_any, any_keys, keys_sum}

-- what holds of each place of a sound table holds of the place at an index
pub sound_at : (xs : List Place) (i : ℕ) → i < length xs → sound xs ≡ true → sound_place (get_or xs i Free) ≡ true
sound_at [] i l e = absurd (omega arith)
sound_at (x ∷ xs) zero l e = (and_parts (sound_place x) (sound xs) e).0
sound_at (x ∷ xs) (suc i) l e = sound_at xs i (omega arith) (and_parts (sound_place x) (sound xs) e).1

-- an entry's stock and sizes
pub record Ranged (e : Entry) : Type 0 where
  pub stock_low : 1 ≤ e.instrument.stock
  pub stock_high : e.instrument.stock ≤ 99999
  pub quantity : nat_abs e.quantity ≤ 20000000000
  pub contract_value : nat_abs e.contract_value ≤ 20000000000
  pub market_value : nat_abs e.market_value ≤ 20000000000

pub ranged : (n : ℕ) (e : Entry) → sound_place (Live n e) ≡ true → Ranged e
ranged n e s =
    let a = and_parts (stocked e.instrument.stock) (sized e.quantity e.contract_value e.market_value) (and_parts (numbered n) (sound_entry e) s).1 in
    let x = and_parts (leb 1 e.instrument.stock) (leb e.instrument.stock 99999) a.0 in
    let q = and_parts (small e.quantity) (small e.contract_value && small e.market_value) a.1 in
    let v = and_parts (small e.contract_value) (small e.market_value) q.1 in
    record {
      stock_low = leb-true 1 e.instrument.stock x.0;
      stock_high = leb-true e.instrument.stock 99999 x.1;
      quantity = leb-true (nat_abs e.quantity) 20000000000 q.0;
      contract_value = leb-true (nat_abs e.contract_value) 20000000000 v.0;
      market_value = leb-true (nat_abs e.market_value) 20000000000 v.1;
    }

pub all_apart : Apart all_stocks
unfolding all_stocks
all_apart = apart_counting 1 99999

pub in_all : (x : ℕ) → 1 ≤ x → x ≤ 99999 → In x all_stocks
unfolding all_stocks
in_all x h k = in_counting 1 99999 x h (omega arith)

module _ (k : Kind) where
  key_held : (x : ℕ) (p : Place) → is_key x (stock_in k p) ≡ held_in k x p
  key_held x Free = refl
  key_held x (Live n e) = go (same_kind k e.instrument.kind)
    where
      go : (b : Bool) → is_key x (cond b (Some e.instrument.stock) None) ≡ (b && eqb x e.instrument.stock)
      go true = refl
      go false = refl
  key_held x (Cancelled n) = refl

  -- an instrument is held where its stock is a key
  pub held_same : (x : ℕ) (ps : List Place) → any_key (stock_in k) x ps ≡ any_place (held_in k x) ps
  held_same x [] = refl
  held_same x (p ∷ ps) = ap (λ b. b || any_key (stock_in k) x ps) (key_held x p) ∙ ap (λ b. held_in k x p || b) (held_same x ps)

  -- no market value where no entry is live
  pub market_none : (x : ℕ) (ps : List Place) → any_place (held_in k x) ps ≡ false → sum_of (market_in k x) ps ≡ pos 0
  market_none x [] h = refl
  market_none x (Free ∷ ps) h = omega (arith, ints, market_none x ps h)
  market_none x (Live n e ∷ ps) h = go (is_of k x e) h (market_none x ps)
    where
      go : (b : Bool) → (b || any_place (held_in k x) ps) ≡ false → (any_place (held_in k x) ps ≡ false → sum_of (market_in k x) ps ≡ pos 0) → cond b e.market_value (pos 0) +ℤ sum_of (market_in k x) ps ≡ pos 0
      go true q f = absurd (true_false q)
      go false q f = omega (arith, ints, f q)
  market_none x (Cancelled n ∷ ps) h = omega (arith, ints, market_none x ps h)

  -- a stock held is one of all
  pub held_stock : (x : ℕ) (ps : List Place) → sound ps ≡ true → any_place (held_in k x) ps ≡ true → (1 ≤ x) × (x ≤ 99999)
  held_stock x [] s h = absurd (true_false (sym h))
  held_stock x (Free ∷ ps) s h = held_stock x ps s h
  held_stock x (Live n e ∷ ps) s h =
      let p = and_parts (sound_place (Live n e)) (sound ps) s in
      go (is_of k x e) refl (ranged n e p.0) h (held_stock x ps p.1)
    where
      go : (b : Bool) → is_of k x e ≡ b → Ranged e → (b || any_place (held_in k x) ps) ≡ true → (any_place (held_in k x) ps ≡ true → (1 ≤ x) × (x ≤ 99999)) → (1 ≤ x) × (x ≤ 99999)
      go true q r g f =
          let same = eqb-true x e.instrument.stock (and_parts (same_kind k e.instrument.kind) (eqb x e.instrument.stock) q).1 in
          (omega (arith, r.stock_low), omega (arith, r.stock_high))
      go false q r g f = f g
  held_stock x (Cancelled n ∷ ps) s h = held_stock x ps (and_parts (numbered n) (sound ps) s).1 h

  module _ (ps : List Place) (s : sound ps ≡ true) where
    abbrev held : ℕ → Bool
    held x = any_place (held_in k x) ps

    -- each stock that is visited is held and one of all
    pub visited_held : (x : ℕ) → In x (visited (stock_in k) ps) → held x ≡ true
    visited_held x i = sym (held_same x ps) ∙ keys_any (stock_in k) x ps i

    pub held_visited : (x : ℕ) → held x ≡ true → In x (visited (stock_in k) ps)
    held_visited x e = any_keys (stock_in k) x ps (held_same x ps ∙ e)

    pub visited_stock : (x : ℕ) → In x (visited (stock_in k) ps) → (1 ≤ x) × (x ≤ 99999)
    visited_stock x i = held_stock x ps s (visited_held x i)

    pub visited_within : Within (visited (stock_in k) ps) all_stocks
    visited_within x i = let h = visited_stock x i in in_all x h.0 h.1

    -- a figure that is nothing where the instrument is not held has one sum over what is visited and over all stocks
    pub visited_sum : (f : ℕ → ℤ) → ((x : ℕ) → held x ≡ false → f x ≡ pos 0) → sum_of f (visited (stock_in k) ps) ≡ sum_of f all_stocks
    visited_sum f h =
        keys_sum (stock_in k) ps all_stocks all_apart
        (λ x e. let r = held_stock x ps s (sym (held_same x ps) ∙ e) in in_all x r.0 r.1)
        f (λ x e. h x (sym (held_same x ps) ∙ e))
