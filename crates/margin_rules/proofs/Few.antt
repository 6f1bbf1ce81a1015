-- The stocks without a position add nothing: a figure over the stocks that an account holds is that over all stocks, and a
-- figure over the rates of these is that over all rates.
use Rattle.std.proofs.Common.{◌≡◌, ℕ, ◌+◌, ◌*◌, ◌^◌, ◌≤◌, Bool, true, false, cond, ◌&&◌, List, [], ◌∷◌, map, ℤ, pos, ◌+ℤ◌, ◌*ℤ◌, Some, None, Option, unsigned_abs, sym, refl, ap, ◌∙◌, ap₂, arith, eqb-true}
use mathlib.Core.Path.{fun_ext}
use lib.IntN.{zero-*ℤ, *ℤ-zero}
use Rattle.std.specs.Int.{int_max}
use Rattle.std.specs.List.{range_with_len}
use Rattle.std.proofs.lemmas.Int.{ints}
use Rattle.amounts.specs.Sums.{sum_of, when, count}
use Rattle.amounts.specs.Tails.{tail_sum}
use Rattle.amounts.specs.Rounding.{round_off, round_up_int}
use Rattle.amounts.specs.Charges.{long, short, sided, due}
use Rattle.amounts.specs.Sets.{In, Apart, Within}
use Rattle.amounts.proofs.Near.{tail_zero}
use Rattle.amounts.proofs.Whole.{when_zero}
use Rattle.amounts.proofs.Charge.{zero_sided}
use Rattle.amounts.proofs.Support.{sum_support, sum_zero, apart_counting, in_counting}
use Rattle.return_source.specs.declared.terms.ScenarioSet.{ScenarioSet}
use Rattle.return_source.specs.declared.terms.ScenarioSet.TheVariants.{Historical, Stress}
use Rattle.return_source.specs.Meaning.{Meaning, tier_of}
use Rattle.return_source.specs.Lawful.{Lawful}
use Rattle.ledger.specs.declared.terms.Kind.{Kind}
use Rattle.ledger.specs.declared.terms.Kind.TheVariants.{Stock}
use Rattle.ledger.specs.declared.terms.Settings.{Settings}
use Rattle.margin_rules.specs.declared.terms.Assessment.{Assessment}
use Rattle.margin_rules.specs.Positions.{Book, all_stocks, all_kinds, entitlement_kinds, gross_of}
use Rattle.margin_rules.specs.Portfolio.{scenarios, return_at, rounded_product, is_flat, in_portfolio, is_common, is_own, common_totals, own_totals, tails_of, weighed, loss_of, side_of, both_tails, floor_of, portfolio_margin}
use Rattle.margin_rules.specs.Charges.{all_rates, is_rate, at_rate, flat_of, entitlement_of, long_percentage, short_percentage, corporate_of}
use Rattle.margin_rules.specs.Requirement.{given_inside, given_beside, portfolio_positions, less, figures_of}
use Rattle.margin_rules.specs.Unrounded.{all_figures, scale, exact_portfolio, unrounded_of}
use Rattle.margin_rules.proofs.Joining.{tail_within}
use Rattle.margin_rules.proofs.Closeness.{HeldAlone}

-- a tail is at most its set of scenarios
pub record TailsWithin (m : Meaning) : Type 0 where
  pub at : (w : ScenarioSet) → (scenarios m w).tail ≤ (scenarios m w).count

pub lawful_tails : (m : Meaning) → Lawful m → TailsWithin m
lawful_tails m ok = record { at = tail_within m ok }

-- a product of which the first factor is 0
abbrev pub Null : (ℤ → ℤ → ℤ) → Type 0
Null times = (c : ℤ) → times (pos 0) c ≡ pos 0

pub null_product : Null ◌*ℤ◌
null_product c = zero-*ℤ c

pub null_rounded : Null rounded_product
null_rounded c = ap (round_off (10 ^ 8)) (zero-*ℤ c)

count_sum : (p : ℕ → Bool) (xs : List ℕ) → pos (count p xs) ≡ sum_of (λ x. pos (cond (p x) 1 0)) xs
count_sum p [] = refl
count_sum p (x ∷ xs) = omega (arith, ints, count_sum p xs)

pos_same : (m n : ℕ) → pos m ≡ pos n → m ≡ n
pos_same m n e = omega (arith, ints)

-- ks are some of the stocks us, each once
pub record SomeOf (ks us : List ℕ) : Type 0 where
  pub apart : Apart ks
  pub apart_all : Apart us
  pub within : Within ks us

pub few_sum : (ks us : List ℕ) → SomeOf ks us → (f : ℕ → ℤ) → ((x : ℕ) → (In x ks → ⊥) → f x ≡ pos 0) → sum_of f ks ≡ sum_of f us
few_sum ks us o f z = sum_support f ks us o.apart o.apart_all o.within (λ u i n. z u n)

pub few_count : (ks us : List ℕ) → SomeOf ks us → (p : ℕ → Bool) → ((x : ℕ) → (In x ks → ⊥) → p x ≡ false) → count p ks ≡ count p us
few_count ks us o p z = pos_same (count p ks) (count p us) (count_sum p ks ∙ few_sum ks us o (λ x. pos (cond (p x) 1 0)) (λ x n. ap (λ b. pos (cond b 1 0)) (z x n)) ∙ sym (count_sum p us))

-- a sum over those that pass a test
pub few_when : (ks us : List ℕ) → SomeOf ks us → (p : ℕ → Bool) → ((x : ℕ) → p x ≡ true → In x ks) → (f : ℕ → ℤ) → sum_of (λ x. when (p x) (f x)) ks ≡ sum_of (λ x. when (p x) (f x)) us
few_when ks us o p all f = few_sum ks us o (λ x. when (p x) (f x)) none
  where
    none : (x : ℕ) → (In x ks → ⊥) → when (p x) (f x) ≡ pos 0
    none x n = go (p x) refl
      where
        go : (b : Bool) → p x ≡ b → when b (f x) ≡ pos 0
        go true e = absurd (n (all x e))
        go false e = refl

-- ---- figures of the stocks themselves: every other stock has market value 0
module _ (m : Meaning) (ok : TailsWithin m) (s : Settings) (ks us : List ℕ) (o : SomeOf ks us) (mv : ℕ → ℤ) (others : (x : ℕ) → (In x ks → ⊥) → mv x ≡ pos 0) where
  pub few_side : (member : ℕ → Bool) → side_of ks member mv ≡ side_of us member mv
  unfolding all_figures
  few_side member =
      ap₂ int_max (few_sum ks us o (λ x. when (member x) (long (mv x))) (λ x n. when_zero (member x) (long (mv x)) (ap long (others x n))))
      (few_sum ks us o (λ x. when (member x) (short (mv x))) (λ x n. when_zero (member x) (short (mv x)) (ap short (others x n))))

  module _ (times : ℤ → ℤ → ℤ) (null : Null times) where
    gone : (x : ℕ) (c : ℤ) → (In x ks → ⊥) → times (mv x) c ≡ pos 0
    gone x c n = ap (λ z. times z c) (others x n) ∙ null c

    pub few_common : (w : ScenarioSet) → common_totals times m s ks w mv ≡ common_totals times m s us w mv
    few_common w =
        ap (λ f. map f (range_with_len 0 (scenarios m w).count))
        (fun_ext (λ i. few_sum ks us o (λ x. when (is_common m s x) (times (mv x) (return_at (m.returns w x) i))) (λ x n. when_zero (is_common m s x) (times (mv x) (return_at (m.returns w x) i)) (gone x (return_at (m.returns w x) i) n))))

    pub own_zero : (w : ScenarioSet) (x : ℕ) → (In x ks → ⊥) → tail_sum (scenarios m w).tail (own_totals times m w mv x) ≡ pos 0
    own_zero w x n = tail_zero (scenarios m w).tail (scenarios m w).count (λ i. times (mv x) (return_at (m.returns w x) i)) (ok.at w) (λ i. gone x (return_at (m.returns w x) i) n)

    pub few_own : (w : ScenarioSet) → sum_of (λ x. when (is_own m s x) (tail_sum (scenarios m w).tail (own_totals times m w mv x))) ks ≡ sum_of (λ x. when (is_own m s x) (tail_sum (scenarios m w).tail (own_totals times m w mv x))) us
    few_own w = few_sum ks us o (λ x. when (is_own m s x) (tail_sum (scenarios m w).tail (own_totals times m w mv x))) (λ x n. when_zero (is_own m s x) (tail_sum (scenarios m w).tail (own_totals times m w mv x)) (own_zero w x n))

    pub few_tails : (w : ScenarioSet) → tails_of times m s ks w mv ≡ tails_of times m s us w mv
    unfolding all_figures
    few_tails w = ap₂ ◌+ℤ◌ (ap (tail_sum (scenarios m w).tail) (few_common w)) (few_own w)

    pub few_loss : loss_of times m s ks mv ≡ loss_of times m s us mv
    unfolding all_figures
    few_loss = ap₂ (weighed m) (few_tails Historical) (few_tails Stress)

  pub few_floor : floor_of m s ks mv ≡ floor_of m s us mv
  unfolding all_figures
  few_floor = ap (λ z. pos (s.floor_rate * both_tails m) *ℤ z) (few_side (in_portfolio m))

  pub few_portfolio : portfolio_margin m s ks mv ≡ portfolio_margin m s us mv
  unfolding all_figures
  few_portfolio = ap₂ (λ l f. round_off (10 ^ 4 * both_tails m) (int_max l f)) (few_loss rounded_product null_rounded) few_floor

  pub few_exact_portfolio : exact_portfolio m s ks mv ≡ exact_portfolio m s us mv
  unfolding all_figures
  few_exact_portfolio = ap₂ (λ l f. int_max l (pos (10 ^ 8) *ℤ f)) (few_loss ◌*ℤ◌ null_product) few_floor

  -- the rates qs are those of the stocks ks, and some of the rates ps
  module _ (qs ps : List ℕ) (r : SomeOf qs ps) (rates : (x q : ℕ) → In x ks → is_flat (tier_of m x) ≡ true → m.rate x ≡ Some q → In q qs) where
    rate_is : (q : ℕ) (t : Option ℕ) → is_rate q t ≡ true → t ≡ Some q
    rate_is q None e = let z : ◌≡◌ {A = ℕ} 0 1 = cc in absurd (omega arith)
    rate_is q (Some p) e = ap Some (sym (eqb-true q p e))

    no_side : (q : ℕ) → (In q qs → ⊥) → side_of ks (at_rate m q) mv ≡ pos 0
    unfolding all_figures
    no_side q n = ap₂ int_max (zero_of long) (zero_of short)
      where
        not_flat : (x : ℕ) → In x ks → at_rate m q x ≡ false
        not_flat x i = go (is_flat (tier_of m x)) refl (is_rate q (m.rate x)) refl
          where
            go : (a : Bool) → is_flat (tier_of m x) ≡ a → (b : Bool) → is_rate q (m.rate x) ≡ b → (a && b) ≡ false
            go true e true f = absurd (n (rates x q i e (rate_is q (m.rate x) f)))
            go true e false f = refl
            go false e b f = refl

        zero_of : (one : ℤ → ℤ) → sum_of (λ x. when (at_rate m q x) (one (mv x))) ks ≡ pos 0
        zero_of one = sum_zero (λ x. when (at_rate m q x) (one (mv x))) ks (λ x i. ap (λ t. when t (one (mv x))) (not_flat x i))

    pub few_flat : flat_of m s ks qs mv ≡ flat_of m s us ps mv
    unfolding all_figures
    few_flat =
        few_sum qs ps r (λ q. pos (q * s.multiplier) *ℤ side_of ks (at_rate m q) mv) (λ q n. ap (λ z. pos (q * s.multiplier) *ℤ z) (no_side q n) ∙ *ℤ-zero (pos (q * s.multiplier))) ∙
        ap (λ f. sum_of f ps) (fun_ext (λ q. ap (λ z. pos (q * s.multiplier) *ℤ z) (few_side (at_rate m q))))

-- ---- figures of every kind: for each kind, some stocks, of which every other has market value 0
module _ (ks : Kind → List ℕ) (us : List ℕ) (o : (k : Kind) → SomeOf (ks k) us) (mv : Kind → ℕ → ℤ) (others : (k : Kind) (x : ℕ) → (In x (ks k) → ⊥) → mv k x ≡ pos 0) where
  pub few_gross : sum_of (λ k. sum_of (λ x. pos (unsigned_abs (mv k x))) (ks k)) all_kinds ≡ gross_of us mv
  unfolding gross_of
  few_gross = ap (λ f. sum_of f all_kinds) (fun_ext (λ k. few_sum (ks k) us (o k) (λ x. pos (unsigned_abs (mv k x))) (λ x n. ap (λ z. pos (unsigned_abs z)) (others k x n))))

  pub few_corporate : (m : Meaning) → sum_of (λ k. sum_of (λ x. sided (long_percentage (entitlement_of m k x)) (short_percentage (entitlement_of m k x)) (mv k x)) (ks k)) entitlement_kinds ≡ corporate_of m us mv
  unfolding all_figures
  few_corporate m =
      ap (λ f. sum_of f entitlement_kinds)
      (fun_ext (λ k. few_sum (ks k) us (o k) (λ x. sided (long_percentage (entitlement_of m k x)) (short_percentage (entitlement_of m k x)) (mv k x))
      (λ x n. ap (sided (long_percentage (entitlement_of m k x)) (short_percentage (entitlement_of m k x))) (others k x n) ∙ zero_sided (long_percentage (entitlement_of m k x)) (short_percentage (entitlement_of m k x)))))

-- ---- all figures over few stocks and rates
pub apart_stocks : Apart all_stocks
unfolding all_stocks
apart_stocks = apart_counting 1 99999

pub apart_rates : Apart all_rates
unfolding all_rates
apart_rates = apart_counting 0 10001

pub stock_in : (x : ℕ) → 1 ≤ x → x ≤ 99999 → In x all_stocks
unfolding all_stocks
stock_in x h k = in_counting 1 99999 x h (omega arith)

pub rate_in : (q : ℕ) → q ≤ 10000 → In q all_rates
unfolding all_rates
rate_in q k = in_counting 0 10001 q (omega arith) (omega arith)

-- ks and qs hold every stock with a position and every flat rate of one
pub record Holds (m : Meaning) (ks qs : List ℕ) (b : Book) : Type 0 where
  pub stocks_apart : Apart ks
  pub rates_apart : Apart qs
  pub stocks_within : Within ks all_stocks
  pub rates_within : Within qs all_rates
  pub others : (k : Kind) (x : ℕ) → (In x ks → ⊥) → b.held k x ≡ false
  pub rates : (x q : ℕ) → In x ks → is_flat (tier_of m x) ≡ true → m.rate x ≡ Some q → In q qs

module _ (m : Meaning) (ok : TailsWithin m) (s : Settings) (b : Book) (alone : HeldAlone b) (ks qs : List ℕ) (h : Holds m ks qs b) where
  stocks : SomeOf ks all_stocks
  stocks = record { apart = h.stocks_apart; apart_all = apart_stocks; within = h.stocks_within }

  others : (k : Kind) (x : ℕ) → (In x ks → ⊥) → b.market k x ≡ pos 0
  others k x n = alone.none k x (h.others k x n)

  flats : flat_of m s ks qs (b.market Stock) ≡ flat_of m s all_stocks all_rates (b.market Stock)
  flats = few_flat m ok s ks all_stocks stocks (b.market Stock) (others Stock) qs all_rates (record { apart = h.rates_apart; apart_all = apart_rates; within = h.rates_within }) h.rates

  corporates : corporate_of m ks b.market ≡ corporate_of m all_stocks b.market
  unfolding all_figures
  corporates = few_corporate (λ k. ks) all_stocks (λ k. stocks) b.market others m

  and_false : (t : Bool) → (t && false) ≡ false
  and_false true = refl
  and_false false = refl

  counts : portfolio_positions m ks b.held ≡ portfolio_positions m all_stocks b.held
  unfolding all_figures
  counts = few_count ks all_stocks stocks (λ x. in_portfolio m x && b.held Stock x) (λ x n. ap (λ t. in_portfolio m x && t) (h.others Stock x n) ∙ and_false (in_portfolio m x))

  -- the figures of an answer over few stocks are those over all
  pub few_figures : figures_of m s ks qs b ≡ figures_of m s all_stocks all_rates b
  unfolding all_figures
  few_figures = λ i. finish (few_portfolio m ok s ks all_stocks stocks (b.market Stock) (others Stock) i) (round_off (10 ^ 6) (flats i)) (round_off (10 ^ 4) (corporates i)) (counts i)
    where
      finish : ℤ → ℤ → ℤ → ℕ → Assessment
      finish p f c n =
          let w = round_off (10 ^ 10) (pos m.parameters.holiday_factor *ℤ (p +ℤ f)) in
          let a = p +ℤ f +ℤ c +ℤ w +ℤ pos (given_inside s) in
          let r = round_up_int m.parameters.step a in
          record {
            portfolio = p;
            flat_rate = f;
            corporate_action = c;
            holiday = w;
            aggregate = a;
            rounded = r;
            favourable = long b.mark;
            requirement = short b.mark;
            net = less r (long b.mark);
            credited = less (less r (long b.mark)) (pos s.credit);
            total = due r b.mark (pos s.credit) +ℤ pos (given_beside s);
            positions = n;
          }

  pub few_unrounded : unrounded_of m s ks qs b ≡ unrounded_of m s all_stocks all_rates b
  unfolding all_figures
  few_unrounded = λ i. finish (few_exact_portfolio m ok s ks all_stocks stocks (b.market Stock) (others Stock) i) (flats i) (corporates i)
    where
      finish : ℤ → ℤ → ℤ → ℤ
      finish p f c =
          due (pos (10 ^ 10 + m.parameters.holiday_factor) *ℤ (p +ℤ pos (10 ^ 6 * both_tails m) *ℤ f) +ℤ pos (10 ^ 18 * both_tails m) *ℤ c +ℤ pos (scale m * given_inside s)) (pos (scale m) *ℤ b.mark) (pos (scale m * s.credit)) +ℤ pos (scale m * given_beside s)
