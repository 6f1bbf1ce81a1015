-- Figures over the stocks held are figures over all stocks. Assumes nothing.
use Rattle.std.proofs.Common.{◌≡◌, ℕ, Bool, true, false, List, map, ℤ, pos, ◌+ℤ◌, unsigned_abs, refl, ap, ◌∙◌, arith}
use Rattle.std.specs.List.{range_with_len}
use Rattle.amounts.specs.Sums.{sum_of, when}
use Rattle.amounts.specs.Tails.{tail_sum}
use Rattle.return_source.specs.Meaning.{Meaning}
use Rattle.return_source.specs.declared.terms.ScenarioSet.{ScenarioSet}
use Rattle.ledger.specs.declared.terms.Kind.TheVariants.{Stock}
use Rattle.ledger.specs.declared.terms.Place.{Place}
use Rattle.ledger.specs.declared.terms.Settings.{Settings}
use Rattle.ledger.specs.Table.{sound}
use Rattle.margin_rules.specs.Positions.{all_stocks}
use Rattle.margin_rules.specs.Portfolio.{scenarios, return_at, rounded_product, is_common, is_own, common_totals, own_totals, tails_of}
use Rattle.margin.specs.Groups.{held_stocks, stock_market}
use Rattle.margin.proofs.Support.{visited_sum, market_none}
use Rattle.margin.proofs.Products.{zero_product}
use Rattle.margin.proofs.Passes.{figures_small}
use Rattle.margin.proofs.TailSizes.{tail_zero}

held_sum : (xs : List Place) → sound xs ≡ true → (f : ℕ → ℤ) → ((x : ℕ) → stock_market xs x ≡ pos 0 → f x ≡ pos 0) → sum_of f (held_stocks xs) ≡ sum_of f all_stocks
held_sum xs s f h = visited_sum Stock xs s f (λ x e. h x (market_none Stock x xs e))

when_zero : (b : Bool) (z : ℤ) → z ≡ pos 0 → when b z ≡ pos 0
when_zero true z e = e
when_zero false z e = refl

module _ (m : Meaning) (s : Settings) (xs : List Place) (fine : sound xs ≡ true) (w : ScenarioSet) where
  abbrev mv : ℕ → ℤ
  mv x = stock_market xs x

  common_held : common_totals rounded_product m s (held_stocks xs) w mv ≡ common_totals rounded_product m s all_stocks w mv
  common_held i = map (λ j. total j i) (range_with_len 0 (scenarios m w).count)
    where
      total : (j : ℕ) → sum_of (λ x. when (is_common m s x) (rounded_product (mv x) (return_at (m.returns w x) j))) (held_stocks xs) ≡ sum_of (λ x. when (is_common m s x) (rounded_product (mv x) (return_at (m.returns w x) j))) all_stocks
      total j =
          held_sum xs fine (λ x. when (is_common m s x) (rounded_product (mv x) (return_at (m.returns w x) j)))
          (λ x e. when_zero (is_common m s x) (rounded_product (mv x) (return_at (m.returns w x) j)) (ap (λ v. rounded_product v (return_at (m.returns w x) j)) e ∙ zero_product (return_at (m.returns w x) j)))

  own_zero : (k x : ℕ) → mv x ≡ pos 0 → tail_sum k (own_totals rounded_product m w mv x) ≡ pos 0
  own_zero k x e =
      let g : ℕ → ℤ = λ j. rounded_product (mv x) (return_at (m.returns w x) j) in
      tail_zero k (own_totals rounded_product m w mv x)
      (figures_small g 0 (scenarios m w).count (own_totals rounded_product m w mv x) refl
      (λ j. let z : g j ≡ pos 0 = ap (λ v. rounded_product v (return_at (m.returns w x) j)) e ∙ zero_product (return_at (m.returns w x) j) in omega (arith, ap unsigned_abs z)))

  own_held : (k : ℕ) → sum_of (λ x. when (is_own m s x) (tail_sum k (own_totals rounded_product m w mv x))) (held_stocks xs) ≡ sum_of (λ x. when (is_own m s x) (tail_sum k (own_totals rounded_product m w mv x))) all_stocks
  own_held k =
      held_sum xs fine (λ x. when (is_own m s x) (tail_sum k (own_totals rounded_product m w mv x)))
      (λ x e. when_zero (is_own m s x) (tail_sum k (own_totals rounded_product m w mv x)) (own_zero k x e))

  -- the tails of the groups, over all stocks
  pub tails_are : (common own : ℤ) → common ≡ tail_sum (scenarios m w).tail (common_totals rounded_product m s (held_stocks xs) w mv) → own ≡ sum_of (λ x. when (is_own m s x) (tail_sum (scenarios m w).tail (own_totals rounded_product m w mv x))) (held_stocks xs) → common +ℤ own ≡ tails_of rounded_product m s all_stocks w mv
  unfolding tails_of
  tails_are common own e f =
      let a = e ∙ ap (tail_sum (scenarios m w).tail) common_held in
      let b = f ∙ own_held (scenarios m w).tail in
      (λ i. a i +ℤ b i)
