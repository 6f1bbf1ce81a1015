-- A sum over the places of a table, one place after the other.
use Rattle.std.proofs.Common.{◌≡◌, ℕ, ◌+◌, ◌*◌, ◌<◌, ◌≤◌, Bool, true, false, cond, List, length, get_or, drop, ℤ, pos, ◌+ℤ◌, nat_abs, arith}
use Rattle.std.proofs.lemmas.Int.{ints}
use Rattle.std.proofs.lemmas.List.{at_drop_more, at_drop_all}
use Rattle.amounts.specs.Sums.{sum_of}
use Rattle.ledger.specs.declared.terms.Kind.{Kind}
use Rattle.ledger.specs.declared.terms.Place.{Place}
use Rattle.ledger.specs.declared.terms.Place.TheVariants.{Free, Live, Cancelled}
use Rattle.ledger.specs.Table.{sound_place}
use Rattle.margin_rules.specs.Positions.{is_of, market_in}
use Rattle.margin.specs.Positions.{quantity_in, contract_in}
use Rattle.margin.proofs.Support.{ranged}

-- what is summed so far and what is left make the whole, and each element has added at most `most`
pub record SoFar {X : Type 0} (most : ℕ) (f : X → ℤ) (xs : List X) (i : ℕ) (s : ℤ) : Type 0 where
  pub whole : s +ℤ sum_of f (drop i xs) ≡ sum_of f xs
  pub size : nat_abs s ≤ most * i

module _ {X : Type 0} (most : ℕ) (f : X → ℤ) (xs : List X) where
  pub so_far_start : SoFar most f xs 0 (pos 0)
  so_far_start = record { whole = omega (arith, ints); size = omega arith }

  pub so_far_more : (i : ℕ) (d : X) (s v t : ℤ) → t ≡ s +ℤ v → i < length xs → v ≡ f (get_or xs i d) → nat_abs v ≤ most → SoFar most f xs i s → SoFar most f xs (i + 1) t
  so_far_more i d s v t a l e b k =
      let z : sum_of f (drop i xs) ≡ f (get_or xs i d) +ℤ sum_of f (drop (i + 1) xs) = at_drop_more (sum_of f) xs i d l in
      record { whole = omega (arith, ints, k.whole); size = omega (arith, ints, k.size) }

  pub so_far_all : (i : ℕ) (s : ℤ) → length xs ≤ i → SoFar most f xs i s → s ≡ sum_of f xs
  so_far_all i s l k =
      let d : sum_of f (drop i xs) ≡ pos 0 = at_drop_all (sum_of f) xs i l in
      omega (arith, ints, k.whole)

cond_small : (b : Bool) (z : ℤ) (n : ℕ) → nat_abs z ≤ n → nat_abs (cond b z (pos 0)) ≤ n
cond_small true z n h = h
cond_small false z n h = omega arith

-- what a sound place adds
pub quantity_small : (k : Kind) (x : ℕ) (p : Place) → sound_place p ≡ true → nat_abs (quantity_in k x p) ≤ 20000000000
quantity_small k x Free s = omega arith
quantity_small k x (Live n e) s = cond_small (is_of k x e) e.quantity 20000000000 (ranged n e s).quantity
quantity_small k x (Cancelled n) s = omega arith

pub contract_small : (k : Kind) (x : ℕ) (p : Place) → sound_place p ≡ true → nat_abs (contract_in k x p) ≤ 20000000000
contract_small k x Free s = omega arith
contract_small k x (Live n e) s = cond_small (is_of k x e) e.contract_value 20000000000 (ranged n e s).contract_value
contract_small k x (Cancelled n) s = omega arith

pub market_small : (k : Kind) (x : ℕ) (p : Place) → sound_place p ≡ true → nat_abs (market_in k x p) ≤ 20000000000
market_small k x Free s = omega arith
market_small k x (Live n e) s = cond_small (is_of k x e) e.market_value 20000000000 (ranged n e s).market_value
market_small k x (Cancelled n) s = omega arith
