-- How far rounding moves the total: each rounding off moves a figure by at most half a dollar, and the bounds add up.
use Rattle.std.proofs.Common.{◌≡◌, ℕ, ◌+◌, ◌*◌, ◌^◌, ◌<◌, ◌≤◌, Bool, true, false, cond, ◌&&◌, ◌||◌, List, [], ◌∷◌, ℤ, pos, ◌+ℤ◌, ◌*ℤ◌, ◌≤ℤ◌, Some, None, Ok, Err, Option, Result, sym, refl, ap, ◌∙◌, subst, mul-le-mul_right, mul_assoc, add-mul, mul-le-mul, mul-add, mul_left_comm, arith, lit<}
use Rattle.std.specs.Int.{int_max}
use Rattle.std.proofs.lemmas.Int.{ints}
use Rattle.amounts.specs.Sums.{sum_of, count}
use Rattle.amounts.specs.Tails.{Near, tail_sum}
use Rattle.amounts.specs.Rounding.{round_off}
use Rattle.amounts.proofs.Whole.{add_z_mul, mul_z_assoc, zero_product, count_split}
use Rattle.amounts.proofs.Near.{Off, off_as, off_more, off_trans, off_add, off_neg, off_max, off_mul, off_scale, off_into, off_same, off_sum, off_when, off_tail, off_is, half, rounded}
use Rattle.amounts.proofs.Round.{round_off_near}
use Rattle.amounts.proofs.Close.{close_low, close_high}
use Rattle.return_source.specs.declared.terms.ScenarioSet.{ScenarioSet}
use Rattle.return_source.specs.declared.terms.ScenarioSet.TheVariants.{Historical, Stress}
use Rattle.return_source.specs.Meaning.{Meaning}
use Rattle.return_source.specs.Lawful.{Lawful}
use Rattle.ledger.specs.declared.terms.Kind.{Kind}
use Rattle.ledger.specs.declared.terms.Kind.TheVariants.{Stock}
use Rattle.ledger.specs.declared.terms.Instrument.{Instrument}
use Rattle.ledger.specs.declared.terms.Settings.{Settings}
use Rattle.ledger.specs.declared.terms.Place.{Place}
use Rattle.ledger.specs.declared.terms.Place.TheVariants.{Free, Live, Cancelled}
use Rattle.ledger.specs.Settings.{is_ipo}
use Rattle.ledger.specs.Calls.{Call, runs}
use Rattle.margin_rules.specs.declared.terms.Assessment.{Assessment}
use Rattle.margin_rules.specs.declared.terms.AssessmentRefusal.{AssessmentRefusal}
use Rattle.margin_rules.specs.declared.terms.AssessmentRefusal.TheVariants.{Sheets, GrossMarketValue, Margin}
use Rattle.margin_rules.specs.declared.terms.Room.{Room}
use Rattle.margin_rules.specs.Positions.{Book, book, is_of, market_in, held_in, any_place, all_stocks}
use Rattle.margin_rules.specs.Portfolio.{scenarios, return_at, rounded_product, in_portfolio, is_common, is_own, common_totals, own_totals, tails_of, loss_of, both_tails, floor_of, portfolio_margin}
use Rattle.margin_rules.specs.Charges.{all_rates, flat_of, flat_margin, corporate_of, corporate_margin, charged, holiday_margin}
use Rattle.margin_rules.specs.Requirement.{given_inside, given_beside, aggregate_margin, total_margin, portfolio_positions, figures_of}
use Rattle.margin_rules.specs.Unrounded.{all_figures, scale, exact_portfolio, exact_charged, exact_aggregate, unrounded_of}
use Rattle.margin_rules.specs.Answers.{unless_uncovered, unless_large, uncovered_of, fits, assessment}
use Rattle.margin_rules.specs.Laws.{RoundingStaysClose, StaysClose}
use Rattle.margin_rules.proofs.Joining.{tail_within}

-- no market value without a live entry
pub record HeldAlone (b : Book) : Type 0 where
  pub none : (k : Kind) (x : ℕ) → b.held k x ≡ false → b.market k x ≡ pos 0

pub held_alone : (t : List Place) → HeldAlone (book t)
held_alone t = record { none = λ k x e. go k x t e }
  where
    step : (k : Kind) (x : ℕ) (t : List Place) (v : ℤ) (b : Bool) → (any_place (held_in k x) t ≡ false → sum_of (market_in k x) t ≡ pos 0) → (b || any_place (held_in k x) t) ≡ false → cond b v (pos 0) +ℤ sum_of (market_in k x) t ≡ pos 0
    step k x t v true f g = let z : ◌≡◌ {A = ℕ} 0 1 = cc in absurd (omega arith)
    step k x t v false f g = omega (arith, ints, f g)

    go : (k : Kind) (x : ℕ) (t : List Place) → any_place (held_in k x) t ≡ false → sum_of (market_in k x) t ≡ pos 0
    go k x [] e = refl
    go k x (Free ∷ t) e = omega (arith, ints, go k x t e)
    go k x (Live n d ∷ t) e = step k x t d.market_value (is_of k x d) (go k x t) e
    go k x (Cancelled n ∷ t) e = omega (arith, ints, go k x t e)

product_near : (h : Bool) (a c : ℤ) → (h ≡ false → a ≡ pos 0) → Off (10 ^ 8 * cond h 1 0) (2 * 10 ^ 8) 2 (rounded_product a c) (a *ℤ c)
product_near true a c k = record { near = round_off_near (10 ^ 8) (a *ℤ c) (lit< tt) }
product_near false a c k =
    let e : a *ℤ c ≡ pos 0 = zero_product a c (k refl) in
    off_same _ _ (ap (λ z. pos (2 * 10 ^ 8) *ℤ round_off (10 ^ 8) z) e ∙ sym (ap (λ z. pos 2 *ℤ z) e))

group : (k u a b c : ℕ) → a + b ≡ c → k * (u * a) + k * u * b ≡ k * (u * c)
group k u a b c e = omega (arith, mul_assoc k u b, mul-add k (u * a) (u * b), ap (λ j. k * j) (mul-add u a b), ap (λ j. k * (u * j)) e)

weighted : (v w h k n : ℕ) → v + w ≡ 10 ^ 4 → v * k * (h * n) + w * h * (k * n) ≡ 10 ^ 4 * (h * k * n)
weighted v w h k n e = omega (arith, one, two, add-mul v w (h * k * n), ap (λ j. j * (h * k * n)) e)
  where
    one : v * k * (h * n) ≡ v * (h * k * n)
    one = simp (mul_assoc, mul_left_comm)

    two : w * h * (k * n) ≡ w * (h * k * n)
    two = simp mul_assoc

one_more : (q n : ℕ) → 10 ^ 8 * (10 ^ 4 * q) + 10 ^ 4 * (q * (10 ^ 8 * n)) ≡ 10 ^ 12 * q * (n + 1)
one_more q n = omega (arith, mul_left_comm q (10 ^ 8) n, mul-add (10 ^ 12 * q) n 1, mul_assoc (10 ^ 12) q n)

module _ (m : Meaning) (s : Settings) (us qs : List ℕ) (ok : Lawful m) (mv : ℕ → ℤ) (held : ℕ → Bool) (alone : (x : ℕ) → held x ≡ false → mv x ≡ pos 0) where
  abbrev n : ℕ
  n = count (λ x. in_portfolio m x && held x) us

  common_near : (w : ScenarioSet) → Off ((scenarios m w).tail * (10 ^ 8 * count (λ x. is_common m s x && held x) us)) (2 * 10 ^ 8) 2 (tail_sum (scenarios m w).tail (common_totals rounded_product m s us w mv)) (tail_sum (scenarios m w).tail (common_totals ◌*ℤ◌ m s us w mv))
  common_near w =
      off_tail (scenarios m w).tail (scenarios m w).count (tail_within m ok w)
      (λ i. off_sum (10 ^ 8) (λ x. is_common m s x && held x) us (λ x. off_when (10 ^ 8) (is_common m s x) (held x) (product_near (held x) (mv x) (return_at (m.returns w x) i) (alone x))))

  own_near : (w : ScenarioSet) (x : ℕ) → Off ((scenarios m w).tail * 10 ^ 8 * cond (held x) 1 0) (2 * 10 ^ 8) 2 (tail_sum (scenarios m w).tail (own_totals rounded_product m w mv x)) (tail_sum (scenarios m w).tail (own_totals ◌*ℤ◌ m w mv x))
  own_near w x =
      off_as (sym (mul_assoc (scenarios m w).tail (10 ^ 8) (cond (held x) 1 0))) refl refl
      (off_tail (scenarios m w).tail (scenarios m w).count (tail_within m ok w) (λ i. product_near (held x) (mv x) (return_at (m.returns w x) i) (alone x)))

  tails_near : (w : ScenarioSet) → Off ((scenarios m w).tail * (10 ^ 8 * n)) (2 * 10 ^ 8) 2 (tails_of rounded_product m s us w mv) (tails_of ◌*ℤ◌ m s us w mv)
  unfolding all_figures
  tails_near w =
      off_as bound refl refl
      (off_add (common_near w) (off_sum ((scenarios m w).tail * 10 ^ 8) (λ x. is_own m s x && held x) us (λ x. off_when ((scenarios m w).tail * 10 ^ 8) (is_own m s x) (held x) (own_near w x))))
    where
      bound : (scenarios m w).tail * (10 ^ 8 * count (λ x. is_common m s x && held x) us) + (scenarios m w).tail * 10 ^ 8 * count (λ x. is_own m s x && held x) us ≡ (scenarios m w).tail * (10 ^ 8 * n)
      bound = group (scenarios m w).tail (10 ^ 8) _ _ n (count_split (in_portfolio m) (is_ipo s) held us)

  abbrev both : ℕ
  both = both_tails m

  loss_near : Off (10 ^ 4 * (both * (10 ^ 8 * n))) (2 * 10 ^ 8) 2 (loss_of rounded_product m s us mv) (loss_of ◌*ℤ◌ m s us mv)
  unfolding all_figures
  loss_near =
      off_as (weighted m.parameters.historical.weight.ten_thousandths m.parameters.stress.weight.ten_thousandths m.parameters.historical.tail m.parameters.stress.tail (10 ^ 8 * n) ok.parameters.whole) refl refl
      (off_neg (off_add (off_mul (m.parameters.historical.weight.ten_thousandths * m.parameters.stress.tail) (tails_near Historical)) (off_mul (m.parameters.stress.weight.ten_thousandths * m.parameters.historical.tail) (tails_near Stress))))

  greater_near : Off (10 ^ 4 * (both * (10 ^ 8 * n))) (2 * 10 ^ 8) 2 (int_max (loss_of rounded_product m s us mv) (floor_of m s us mv)) (exact_portfolio m s us mv)
  unfolding all_figures
  greater_near = off_max loss_near (off_same _ _ (mul_z_assoc 2 (10 ^ 8) (floor_of m s us mv)))

  both_some : 0 < both
  both_some = omega (arith, mul-le-mul ok.parameters.historical.tail_some ok.parameters.stress.tail_some)

  -- over 10^12 times both tail counts
  portfolio_near : Off (10 ^ 12 * both * (n + 1)) (2 * (10 ^ 12 * both)) 2 (portfolio_margin m s us mv) (exact_portfolio m s us mv)
  unfolding all_figures
  portfolio_near =
      off_as (one_more both n) (omega arith) refl (off_trans (off_scale (10 ^ 8) (rounded (10 ^ 4 * both) (int_max (loss_of rounded_product m s us mv) (floor_of m s us mv)) (omega (arith, both_some)))) greater_near)

  flat_near : Off (10 ^ 12 * both) (2 * (10 ^ 12 * both)) 2 (flat_margin m s us qs mv) (pos (10 ^ 6 * both) *ℤ flat_of m s us qs mv)
  unfolding all_figures
  flat_near = off_into (10 ^ 6 * both) (off_as (omega arith) (omega arith) (omega arith) (off_scale (10 ^ 6 * both) (rounded (10 ^ 6) (flat_of m s us qs mv) (lit< tt))))

  charged_near : Off (10 ^ 12 * both * (n + 2)) (2 * (10 ^ 12 * both)) 2 (charged m s us qs mv) (exact_charged m s us qs mv)
  unfolding all_figures
  charged_near = off_as (omega (arith, mul-add (10 ^ 12 * both) n 1, mul-add (10 ^ 12 * both) n 2)) refl refl (off_add portfolio_near flat_near)

  main_near : Off (scale m * (n + 2)) (2 * scale m) 2 (charged m s us qs mv) (pos (10 ^ 10) *ℤ exact_charged m s us qs mv)
  main_near = off_into (10 ^ 10) (off_as (omega (arith, mul_assoc (10 ^ 12) both (n + 2), mul_assoc (10 ^ 22) both (n + 2))) (omega arith) refl (off_scale (10 ^ 10) charged_near))

  holiday_near : Off (scale m * (n + 3)) (2 * scale m) 2 (holiday_margin m s us qs mv) (pos m.parameters.holiday_factor *ℤ exact_charged m s us qs mv)
  unfolding all_figures
  holiday_near =
      off_more (scale m * (n + 3)) bound
      (off_as refl (omega arith) refl (off_trans (off_as refl refl (omega arith) (off_scale (10 ^ 12 * both) (rounded (10 ^ 10) (pos m.parameters.holiday_factor *ℤ charged m s us qs mv) (lit< tt)))) (off_mul m.parameters.holiday_factor charged_near)))
    where
      bound : 10 ^ 12 * both * 10 ^ 10 + m.parameters.holiday_factor * (10 ^ 12 * both * (n + 2)) ≤ scale m * (n + 3)
      bound = omega (arith, mul-le-mul_right (10 ^ 12 * both * (n + 2)) ok.parameters.factor, mul_assoc (10 ^ 12) both (n + 2), mul_assoc (10 ^ 22) both (n + 3), mul-add both n 2, mul-add both n 3)

corporate_near : (m : Meaning) (us : List ℕ) (mv : Kind → ℕ → ℤ) → Off (scale m) (2 * scale m) 2 (corporate_margin m us mv) (pos (10 ^ 18 * both_tails m) *ℤ corporate_of m us mv)
unfolding all_figures
corporate_near m us mv = off_into (10 ^ 18 * both_tails m) (off_as (omega arith) (omega arith) (omega arith) (off_scale (10 ^ 18 * both_tails m) (rounded (10 ^ 4) (corporate_of m us mv) (lit< tt))))

module _ (m : Meaning) (s : Settings) (us qs : List ℕ) (ok : Lawful m) (b : Book) (alone : HeldAlone b) where
  abbrev k : ℕ
  k = portfolio_positions m us b.held

  aggregate_near : Near (scale m * (k + 3)) (pos (scale m) *ℤ aggregate_margin m s us qs b) (exact_aggregate m s us qs b)
  unfolding all_figures
  aggregate_near =
      half _ (scale m) _ _
      (off_is join
      (off_as bound refl refl
      (off_add (off_add (off_add (main_near m s us qs ok (b.market Stock) (b.held Stock) (alone.none Stock)) (corporate_near m us b.market)) (holiday_near m s us qs ok (b.market Stock) (b.held Stock) (alone.none Stock))) inside)))
    where
      inside : Off 0 (2 * scale m) 2 (pos (given_inside s)) (pos (scale m * given_inside s))
      inside = off_same _ _ (ap pos (mul_assoc 2 (scale m) (given_inside s)))

      bound : scale m * (k + 2) + scale m + scale m * (k + 3) + 0 ≡ 2 * (scale m * (k + 3))
      bound = omega (arith, mul-add (scale m) k 2, mul-add (scale m) k 3)

      join : pos (10 ^ 10) *ℤ exact_charged m s us qs (b.market Stock) +ℤ pos (10 ^ 18 * both_tails m) *ℤ corporate_of m us b.market +ℤ pos m.parameters.holiday_factor *ℤ exact_charged m s us qs (b.market Stock) +ℤ pos (scale m * given_inside s) ≡ exact_aggregate m s us qs b
      join = omega (arith, ints, add_z_mul (pos (10 ^ 10)) (pos m.parameters.holiday_factor) (exact_charged m s us qs (b.market Stock)))

-- the answered figures are those over all stocks and rates
pub answered_figures : (m : Meaning) (s : Settings) (b : Book) (l : Room) (a : Assessment) → assessment m s b l ≡ Ok a → figures_of m s all_stocks all_rates b ≡ a
answered_figures m s b l a e = go (fits m l) (uncovered_of m all_stocks b.held) _ (figures_of m s all_stocks all_rates b) e
  where
    late : (t : Bool) (x : Assessment) → ◌≡◌ {A = Result Assessment AssessmentRefusal} (cond t (Ok x) (Err Margin)) (Ok a) → x ≡ a
    late true x q = cc
    late false x q = let z : ◌≡◌ {A = ℕ} 0 1 = cc in absurd (omega arith)

    go : (f : Bool) (o : Option Instrument) (g : Bool) (x : Assessment) → cond f (unless_uncovered o (cond g (unless_large x) (Err GrossMarketValue))) (Err Sheets) ≡ Ok a → x ≡ a
    go false o g x q = let z : ◌≡◌ {A = ℕ} 0 1 = cc in absurd (omega arith)
    go true (Some i) g x q = let z : ◌≡◌ {A = ℕ} 0 1 = cc in absurd (omega arith)
    go true None false x q = let z : ◌≡◌ {A = ℕ} 0 1 = cc in absurd (omega arith)
    go true None true x q = late _ x q

-- the figures of a table, any stocks and rates
pub figures_close : (m : Meaning) → Lawful m → (s : Settings) (us qs : List ℕ) (b : Book) → HeldAlone b →
    (unrounded_of m s us qs b ≤ℤ (pos (scale m) *ℤ (total_margin m s us qs b +ℤ pos (portfolio_positions m us b.held + 3)))) ×
    ((pos (scale m) *ℤ total_margin m s us qs b) ≤ℤ (unrounded_of m s us qs b +ℤ pos (scale m) *ℤ pos (portfolio_positions m us b.held + 2 + m.parameters.step)))
unfolding all_figures
figures_close m ok s us qs b alone = (
  close_low (scale m) (portfolio_positions m us b.held) m.parameters.step s.credit (given_beside s) (aggregate_margin m s us qs b) (exact_aggregate m s us qs b) b.mark ok.parameters.step_some (aggregate_near m s us qs ok b alone),
  close_high (scale m) (portfolio_positions m us b.held) m.parameters.step s.credit (given_beside s) (aggregate_margin m s us qs b) (exact_aggregate m s us qs b) b.mark ok.parameters.step_some (aggregate_near m s us qs ok b alone),
)

pub at_figures : (m : Meaning) → Lawful m → (s : Settings) (places : ℕ) (calls : List Call) → StaysClose m s places calls (figures_of m s all_stocks all_rates (book (runs places calls [])))
unfolding all_figures
at_figures m ok s places calls =
    let c = figures_close m ok s all_stocks all_rates (book (runs places calls [])) (held_alone (runs places calls [])) in
    record { low = c.0; high = c.1 }

pub rounding_stays_close : RoundingStaysClose
rounding_stays_close m ok s places calls l a e = subst (StaysClose m s places calls) (answered_figures m s (book (runs places calls [])) l a e) (at_figures m ok s places calls)
