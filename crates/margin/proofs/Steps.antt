-- The figures, step by step. Assumes nothing.
use Rattle.std.proofs.Common.{◌≡◌, ℕ, List, true, false, cond, int_le, int_lt, Ok, Err, sym, ◌<◌, ◌≤◌, ℤ, pos, ◌+ℤ◌, unsigned_abs, ap, ◌∙◌, arith, w64, FitsSigned, to_z, of_z}
use lib.Signed.{mag}
use Rattle.std.proofs.lemmas.Int.{ints, to_z-of_z}
use Rattle.amounts.specs.Rounding.{round_up_int}
use Rattle.amounts.specs.Charges.{long, short}
use Rattle.return_source.specs.Meaning.{Meaning}
use Rattle.return_source.specs.declared.terms.Parameters.{Parameters}
use Rattle.ledger.specs.declared.terms.Kind.TheVariants.{Stock}
use Rattle.ledger.specs.declared.terms.Settings.{Settings}
use Rattle.margin_rules.specs.declared.terms.Assessment.{Assessment}
use Rattle.margin_rules.specs.declared.terms.AssessmentRefusal.TheVariants.{Margin}
use Rattle.margin_rules.specs.Answers.{most_margin, unless_large}
use Rattle.margin_rules.specs.Positions.{Book}
use Rattle.margin_rules.specs.Portfolio.{portfolio_margin}
use Rattle.margin_rules.specs.Charges.{flat_margin, corporate_margin, charged, holiday_margin}
use Rattle.margin_rules.specs.Requirement.{given_inside, given_beside, less, aggregate_margin, rounded_margin, total_margin, portfolio_positions, figures_of}
use Rattle.margin.specs.Requirement.{holiday_on, aggregate_on, figures_on}

-- a number of 64 bits as code hands it on
pub through : (z : ℤ) → mag z < 9223372036854775808 → to_z w64 (of_z w64 z) ≡ z
through z h = let f : FitsSigned w64 z = record { sfits = h } in to_z-of_z w64 z f

module _ (p : Parameters) (s : Settings) (portfolio flat corporate mark : ℤ) (n : ℕ) where
  pub figures_are : (ch ho gi ag ro fa re ne cr cd gb to : ℤ) → ch ≡ portfolio +ℤ flat → ho ≡ holiday_on p ch → gi ≡ pos (given_inside s) → ag ≡ ch +ℤ corporate +ℤ ho +ℤ gi → ro ≡ round_up_int p.step ag → fa ≡ long mark → re ≡ short mark → ne ≡ less ro fa → cr ≡ pos s.credit → cd ≡ less ne cr → gb ≡ pos (given_beside s) → to ≡ cd +ℤ re +ℤ gb →
      ◌≡◌ {A = Assessment} (record { portfolio = portfolio; flat_rate = flat; corporate_action = corporate; holiday = ho; aggregate = ag; rounded = ro; favourable = fa; requirement = re; net = ne; credited = cd; total = to; positions = n }) (figures_on p s portfolio flat corporate mark n)
  figures_are ch ho gi ag ro fa re ne cr cd gb to e1 e2 e3 e4 e5 e6 e7 e8 e9 e10 e11 e12 =
      let holiday = e2 ∙ ap (holiday_on p) e1 in
      let aggregate : ag ≡ aggregate_on p s (portfolio +ℤ flat) corporate = e4 ∙ (λ i. e1 i +ℤ corporate +ℤ holiday i +ℤ e3 i) in
      let rounded = e5 ∙ ap (round_up_int p.step) aggregate in
      let net = e8 ∙ (λ i. less (rounded i) (e6 i)) in
      let credited = e10 ∙ (λ i. less (net i) (e9 i)) in
      let total = e12 ∙ (λ i. credited i +ℤ e7 i +ℤ e11 i) in
      (λ i. record { portfolio = portfolio; flat_rate = flat; corporate_action = corporate; holiday = holiday i; aggregate = aggregate i; rounded = rounded i; favourable = e6 i; requirement = e7 i; net = net i; credited = credited i; total = total i; positions = n })

pub through_small : (z : ℤ) → unsigned_abs z ≤ 4000000000000000000 → to_z w64 (of_z w64 z) ≡ z
through_small z h = omega (arith, ints)

-- the figures of an account are those that follow from its margins, its mark and its positions
pub figures_agree : (m : Meaning) (s : Settings) (us qs : List ℕ) (b : Book) (p : Parameters) (portfolio flat corporate mark : ℤ) (n : ℕ) → p ≡ m.parameters → portfolio ≡ portfolio_margin m s us (b.market Stock) → flat ≡ flat_margin m s us qs (b.market Stock) → corporate ≡ corporate_margin m us b.market → mark ≡ b.mark → n ≡ portfolio_positions m us b.held → figures_on p s portfolio flat corporate mark n ≡ figures_of m s us qs b
unfolding figures_of total_margin rounded_margin aggregate_margin holiday_margin charged
figures_agree m s us qs b p portfolio flat corporate mark n e1 e2 e3 e4 e5 e6 = λ i. figures_on (e1 i) s (e2 i) (e3 i) (e4 i) (e5 i) (e6 i)

module _ (m : Meaning) (s : Settings) (us qs : List ℕ) (b : Book) (portfolio flat : ℤ) (e : portfolio ≡ portfolio_margin m s us (b.market Stock)) (f : flat ≡ flat_margin m s us qs (b.market Stock)) where
  -- portfolio and flat-rate margin together are too large
  pub figures_refused : int_le (portfolio +ℤ flat) most_margin ≡ false → Err Margin ≡ unless_large (figures_of m s us qs b)
  unfolding figures_of
  figures_refused h = sym (ap (λ t. cond t (Ok (figures_of m s us qs b)) (Err Margin)) ((λ i. int_le (sym e i +ℤ sym f i) most_margin) ∙ h))

  -- they are not
  pub figures_accepted : (a : Assessment) → int_le (portfolio +ℤ flat) most_margin ≡ true → a ≡ figures_of m s us qs b → Ok a ≡ unless_large (figures_of m s us qs b)
  unfolding figures_of
  figures_accepted a h q = ap Ok q ∙ sym (ap (λ t. cond t (Ok (figures_of m s us qs b)) (Err Margin)) ((λ i. int_le (sym e i +ℤ sym f i) most_margin) ∙ h))

pub added_through : (p f : ℤ) → unsigned_abs p ≤ 2000000000000000000 → unsigned_abs f ≤ 2000000000000000000 → to_z w64 (of_z w64 (to_z w64 (of_z w64 p) +ℤ to_z w64 (of_z w64 f))) ≡ p +ℤ f
added_through p f h k = omega (arith, ints)

pub not_within : (a z : ℤ) → int_lt a z ≡ true → int_le z a ≡ false
not_within a z h = grind (arith, ints)

pub is_within : (a z : ℤ) → int_lt a z ≡ false → int_le z a ≡ true
is_within a z h = grind (arith, ints)
