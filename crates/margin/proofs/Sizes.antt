-- Gross market value, and how it bounds each position.
use Rattle.std.proofs.Common.{◌≡◌, ℕ, ◌≤◌, true, List, [], ◌∷◌, ℤ, pos, nat_abs, ◌≤ℤ◌, refl, ap, inl, inr, arith}
use Rattle.std.proofs.lemmas.Int.{ints}
use Rattle.std.proofs.lemmas.Bool.{cases_Bool}
use Rattle.amounts.specs.Sums.{sum_of}
use Rattle.amounts.specs.Sets.{In}
use Rattle.ledger.specs.declared.terms.Kind.{Kind}
use Rattle.ledger.specs.declared.terms.Kind.TheVariants.{Stock, Dsp, Sri, Div}
use Rattle.ledger.specs.declared.terms.Place.{Place}
use Rattle.ledger.specs.Table.{sound}
use Rattle.margin_rules.specs.Positions.{all_kinds, all_stocks, market_in, held_in, any_place, gross_of}
use Rattle.margin.specs.Visits.{stock_in, visited}
use Rattle.margin.proofs.Support.{in_all, held_stock, market_none, visited_sum}

-- the market value of a position
abbrev pub market : List Place → Kind → ℕ → ℤ
market xs k x = sum_of (market_in k x) xs

-- its size
abbrev pub size : Kind → List Place → ℕ → ℤ
size k xs x = pos (nat_abs (market xs k x))

-- the sizes of a kind's positions, together
abbrev pub sizes : List Place → Kind → ℤ
sizes xs k = sum_of (size k xs) all_stocks

pub visited_sizes : (k : Kind) (xs : List Place) → sound xs ≡ true → sum_of (size k xs) (visited (stock_in k) xs) ≡ sizes xs k
visited_sizes k xs s = visited_sum k xs s (size k xs) (λ x h. ap (λ z. pos (nat_abs z)) (market_none k x xs h))

pub gross_is : (xs : List Place) → sum_of (sizes xs) all_kinds ≡ gross_of all_stocks (market xs)
unfolding gross_of
gross_is xs = refl

-- a sum of sizes bounds each of them
sum_low : (f : ℕ → ℕ) (us : List ℕ) → pos 0 ≤ℤ sum_of (λ x. pos (f x)) us
sum_low f [] = omega (arith, ints)
sum_low f (u ∷ us) = omega (arith, ints, sum_low f us)

in_sum : (f : ℕ → ℕ) (us : List ℕ) (x : ℕ) → In x us → pos (f x) ≤ℤ sum_of (λ x. pos (f x)) us
in_sum f [] x i = absurd i
in_sum f (u ∷ us) x (inl e) = omega (arith, ints, sum_low f us, ap f e)
in_sum f (u ∷ us) x (inr i) = omega (arith, ints, in_sum f us x i)

module _ (xs : List Place) (s : sound xs ≡ true) (g : gross_of all_stocks (market xs) ≤ℤ pos 20000000000) where
  sizes_low : (k : Kind) → pos 0 ≤ℤ sizes xs k
  sizes_low k = sum_low (λ x. nat_abs (market xs k x)) all_stocks

  -- where gross market value is within its limit, so is each kind's
  pub kind_small : (k : Kind) → sizes xs k ≤ℤ pos 20000000000
  kind_small k = go k
    where
      whole : sum_of (sizes xs) all_kinds ≤ℤ pos 20000000000
      whole = omega (arith, ints, gross_is xs, g)

      go : (k : Kind) → sizes xs k ≤ℤ pos 20000000000
      go Stock = omega (arith, ints, whole, sizes_low Stock, sizes_low Dsp, sizes_low Sri, sizes_low Div)
      go Dsp = omega (arith, ints, whole, sizes_low Stock, sizes_low Dsp, sizes_low Sri, sizes_low Div)
      go Sri = omega (arith, ints, whole, sizes_low Stock, sizes_low Dsp, sizes_low Sri, sizes_low Div)
      go Div = omega (arith, ints, whole, sizes_low Stock, sizes_low Dsp, sizes_low Sri, sizes_low Div)

  -- and each position's market value
  pub position_small : (k : Kind) (x : ℕ) → nat_abs (market xs k x) ≤ 20000000000
  position_small k x =
      elim (cases_Bool (any_place (held_in k x) xs)) [
        | inl h ↦ let r = held_stock k x xs s h in omega (arith, ints, in_sum (λ x. nat_abs (market xs k x)) all_stocks x (in_all x r.0 r.1), kind_small k)
        | inr h ↦ omega (arith, ints, ap nat_abs (market_none k x xs h))
      ]
