-- What the positions of one kind cost as entitlements, over what is visited and over all stocks.
use Rattle.std.proofs.Common.{◌≡◌, ℕ, true, List, ℤ, pos, ◌+ℤ◌, ◌-ℤ◌, ◌*ℤ◌, ◌≤ℤ◌, IfSome, sym, ap, ◌∙◌, arith}
use Rattle.std.proofs.lemmas.Int.{ints, clamps}
use Rattle.std.proofs.Math.IntN.{*ℤ-zero, zero-*ℤ, *ℤ_comm}
use Rattle.amounts.specs.Sums.{sum_of}
use Rattle.amounts.specs.Charges.{long, short, sided}
use Rattle.return_source.specs.Meaning.{Meaning}
use Rattle.return_source.specs.Lawful.{Lawful, LawfulEntitlement}
use Rattle.ledger.specs.declared.terms.Kind.{Kind}
use Rattle.ledger.specs.declared.terms.Kind.TheVariants.{Stock, Dsp, Sri, Div}
use Rattle.return_source.specs.declared.terms.EntitlementType.TheVariants as entitlement
use Rattle.ledger.specs.declared.terms.Place.{Place}
use Rattle.ledger.specs.Table.{sound}
use Rattle.margin_rules.specs.Positions.{all_stocks, market_in}
use Rattle.margin_rules.specs.Charges.{entitlement_of, long_percentage, short_percentage, corporate_of}
use Rattle.margin.specs.Visits.{stock_in, visited}
use Rattle.margin.specs.Costs.{charged_at}
use Rattle.margin.proofs.Support.{market_none, visited_sum}
use Rattle.margin.proofs.Visiting.{stocks, sum_filter}

-- every entitlement of a lawful source has percentages of at most 4
pub lawful_entitlement : (m : Meaning) → Lawful m → (k : Kind) (x : ℕ) → IfSome (entitlement_of m k x) LawfulEntitlement
lawful_entitlement m ok Stock x = tt
lawful_entitlement m ok Dsp x = ok.entitlements entitlement.Dsp x
lawful_entitlement m ok Sri x = ok.entitlements entitlement.Sri x
lawful_entitlement m ok Div x = ok.entitlements entitlement.Div x

-- a short position is charged its size at the short percentage
pub short_charge : (p q : ℕ) (v : ℤ) → v ≤ℤ pos 0 → (pos 0 -ℤ v) *ℤ pos q ≡ sided p q v
short_charge p q v h =
    let l : long v ≡ pos 0 = omega (arith, ints, clamps) in
    let s : short v ≡ pos 0 -ℤ v = omega (arith, ints, clamps) in
    let e : sided p q v ≡ pos p *ℤ pos 0 +ℤ pos q *ℤ (pos 0 -ℤ v) = λ i. pos p *ℤ l i +ℤ pos q *ℤ s i in
    let c = *ℤ_comm (pos 0 -ℤ v) (pos q) in
    let z = *ℤ-zero (pos p) in
    c ∙ sym (e ∙ go (pos p *ℤ pos 0) (pos q *ℤ (pos 0 -ℤ v)) z)
  where
    go : (a b : ℤ) → a ≡ pos 0 → a +ℤ b ≡ b
    go a b z = omega (arith, ints)

pub no_charge : (p q : ℕ) → sided p q (pos 0) ≡ pos 0
no_charge p q = omega (arith, ints, *ℤ-zero (pos p), *ℤ-zero (pos q))

pub free_of_charge : (v : ℤ) → pos 0 ≡ sided 0 0 v
free_of_charge v = omega (arith, ints, zero-*ℤ (long v), zero-*ℤ (short v))

module _ (m : Meaning) (k : Kind) (xs : List Place) where
  abbrev mv : ℕ → ℤ
  mv x = sum_of (market_in k x) xs

  abbrev pub cost : ℕ → ℤ
  cost x = charged_at (entitlement_of m k x) (mv x)

  -- what is visited costs what all stocks cost
  pub cost_all : sound xs ≡ true → sum_of cost (stocks k xs) ≡ sum_of cost all_stocks
  cost_all s =
      sum_filter (λ x. true) cost (visited (stock_in k) xs)
      ∙ visited_sum k xs s cost (λ x n. ap (charged_at (entitlement_of m k x)) (market_none k x xs n) ∙ no_charge (long_percentage (entitlement_of m k x)) (short_percentage (entitlement_of m k x)))

pub corporate_parts : (m : Meaning) (mv : Kind → ℕ → ℤ) (a b c : ℤ) →
    a ≡ sum_of (λ x. charged_at (entitlement_of m Dsp x) (mv Dsp x)) all_stocks →
    b ≡ sum_of (λ x. charged_at (entitlement_of m Sri x) (mv Sri x)) all_stocks →
    c ≡ sum_of (λ x. charged_at (entitlement_of m Div x) (mv Div x)) all_stocks →
    a +ℤ b +ℤ c ≡ corporate_of m all_stocks mv
unfolding corporate_of
corporate_parts m mv a b c p q r = omega (arith, ints, p, q, r)
