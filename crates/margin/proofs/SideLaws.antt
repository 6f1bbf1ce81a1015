-- The side of a part, over what is visited and over all stocks.
use Rattle.std.proofs.Common.{◌≡◌, ℕ, ◌≤◌, Bool, true, false, List, ℤ, pos, nat_abs, refl, ap, ◌∙◌, arith}
use Rattle.std.specs.Int.{int_max}
use Rattle.std.proofs.lemmas.Int.{ints, clamps}
use Rattle.amounts.specs.Sums.{sum_of, when}
use Rattle.amounts.specs.Charges.{long, short}
use Rattle.return_source.specs.Meaning.{Meaning}
use Rattle.ledger.specs.declared.terms.Kind.TheVariants.{Stock}
use Rattle.ledger.specs.declared.terms.Place.{Place}
use Rattle.ledger.specs.declared.terms.Settings.{Settings}
use Rattle.ledger.specs.Table.{sound}
use Rattle.margin_rules.specs.Positions.{all_stocks, market_in, held_in, any_place}
use Rattle.margin_rules.specs.Portfolio.{side_of}
use Rattle.margin.specs.declared.parts.Part.{Part}
use Rattle.margin.specs.Visits.{stock_in, visited}
use Rattle.margin.specs.Parts.{belongs}
use Rattle.margin.proofs.Support.{market_none, visited_sum}
use Rattle.margin.proofs.Visiting.{part_stocks, sum_filter}

-- one side, long or short, by the function that takes it of a market value
pub record OneSide (g : ℤ → ℤ) : Type 0 where
  pub none : g (pos 0) ≡ pos 0

pub long_side : OneSide long
long_side = record { none = refl }

pub short_side : OneSide short
short_side = record { none = refl }

module _ (m : Meaning) (s : Settings) (part : Part) (xs : List Place) (fine : sound xs ≡ true) where
  abbrev mv : ℕ → ℤ
  mv x = sum_of (market_in Stock x) xs

  -- what a stock adds to a side
  abbrev adds : (ℤ → ℤ) → ℕ → ℤ
  adds g x = when (belongs m s part x) (g (mv x))

  -- a side over what is visited is that over all stocks
  side_all : (g : ℤ → ℤ) → OneSide g → sum_of (λ x. g (mv x)) (part_stocks m s part xs) ≡ sum_of (adds g) all_stocks
  side_all g z = sum_filter (belongs m s part) (λ x. g (mv x)) (visited (stock_in Stock) xs) ∙ visited_sum Stock xs fine (adds g) (λ x e. go x e (belongs m s part x))
    where
      go : (x : ℕ) → any_place (held_in Stock x) xs ≡ false → (b : Bool) → when b (g (mv x)) ≡ pos 0
      go x e true = ap g (market_none Stock x xs e) ∙ z.none
      go x e false = refl

  pub sides : (a b : ℤ) → a ≡ sum_of (λ x. long (mv x)) (part_stocks m s part xs) → b ≡ sum_of (λ x. short (mv x)) (part_stocks m s part xs) → int_max a b ≡ side_of all_stocks (belongs m s part) mv
  unfolding side_of
  sides a b p q = λ i. int_max ((p ∙ side_all long long_side) i) ((q ∙ side_all short short_side) i)

pub max_small : (a b : ℤ) (n : ℕ) → nat_abs a ≤ n → nat_abs b ≤ n → nat_abs (int_max a b) ≤ n
max_small a b n h k = omega (arith, ints, clamps)
