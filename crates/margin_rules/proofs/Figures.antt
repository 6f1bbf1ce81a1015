-- The worked figures: by computation over the few stocks and rates that the accounts hold, which are enough.
use Rattle.std.proofs.Common.{◌≡◌, ℕ, ◌*◌, ◌^◌, ◌≤◌, Bool, true, false, cond, ◌&&◌, eqb, List, [], ◌∷◌, pos, Some, None, Option, sym, refl, ap, ◌∙◌, inl, inr, arith, lit≤, rules, ne_eqb, nat_le}
use Rattle.amounts.specs.Sets.{In}
use Rattle.return_source.specs.declared.terms.ScenarioSet.{ScenarioSet}
use Rattle.return_source.specs.declared.terms.ScenarioSet.TheVariants.{Historical, Stress}
use Rattle.return_source.specs.Meaning.{Meaning}
use Rattle.ledger.specs.declared.terms.Kind.{Kind}
use Rattle.ledger.specs.declared.terms.Kind.TheVariants.{Stock}
use Rattle.ledger.specs.declared.terms.Settings.{Settings}
use Rattle.ledger.specs.Calls.{runs}
use Rattle.margin_rules.specs.Positions.{Book, all_stocks}
use Rattle.margin_rules.specs.Portfolio.{scenarios}
use Rattle.margin_rules.specs.Charges.{all_rates, flat_margin}
use Rattle.margin_rules.specs.Requirement.{rounded_margin, figures_of}
use Rattle.margin_rules.specs.Unrounded.{all_figures, unrounded_of}
use Rattle.margin_rules.specs.Laws.{book_after}
use Rattle.fallback_source.specs.Fallback.{fallback_meaning}
use Rattle.margin_rules.specs.Figures.{WorkedFigures, day_meaning, day_settings, day_calls, day_answer, two_sides, plain_settings}
use Rattle.margin_rules.proofs.Closeness.{held_alone}
use Rattle.margin_rules.proofs.Few.{TailsWithin, Holds, stock_in, rate_in, few_figures, few_unrounded}

and_false : (t : Bool) → (t && false) ≡ false
and_false true = refl
and_false false = refl

-- a rate that a stock has or has not
rate_one : (b : Bool) (r q : ℕ) → ◌≡◌ {A = Option ℕ} (cond b (Some r) None) (Some q) → q ≡ r
rate_one true r q e = cc
rate_one false r q e = let z : ◌≡◌ {A = ℕ} 0 1 = cc in absurd (omega arith)

-- ---- the day

abbrev day_stocks : List ℕ
day_stocks = 11 ∷ (22 ∷ (33 ∷ (44 ∷ [])))

abbrev day_book : Book
day_book = book_after 16 day_calls

day_held : (k : Kind) (x : ℕ) → (In x day_stocks → ⊥) → day_book.held k x ≡ false
day_held k x n =
    let a : eqb x 11 ≡ false = ne_eqb x 11 (λ e. n (inl e)) in
    let b : eqb x 22 ≡ false = ne_eqb x 22 (λ e. n (inr (inl e))) in
    let c : eqb x 33 ≡ false = ne_eqb x 33 (λ e. n (inr (inr (inl e)))) in
    let d : eqb x 44 ≡ false = ne_eqb x 44 (λ e. n (inr (inr (inr (inl e))))) in
    simp (a, b, c, d, and_false)

day_within : (x : ℕ) → In x day_stocks → In x all_stocks
day_within x (inl e) = stock_in x (omega arith) (omega arith)
day_within x (inr (inl e)) = stock_in x (omega arith) (omega arith)
day_within x (inr (inr (inl e))) = stock_in x (omega arith) (omega arith)
day_within x (inr (inr (inr (inl e)))) = stock_in x (omega arith) (omega arith)
day_within x (inr (inr (inr (inr i)))) = absurd i

day_holds : Holds day_meaning day_stocks (1200 ∷ []) day_book
day_holds =
    record {
      stocks_apart = search rules;
      rates_apart = (λ i. i, tt);
      stocks_within = day_within;
      rates_within = λ q. elim [ inl e ↦ rate_in q (omega arith) | inr i ↦ absurd i ];
      others = day_held;
      rates = λ x q i f e. inl (rate_one (eqb x 33) 1200 q e);
    }

day_tails : TailsWithin day_meaning
day_tails = record { at = within }
  where
    within : (w : ScenarioSet) → (scenarios day_meaning w).tail ≤ (scenarios day_meaning w).count
    within Historical = lit≤ tt
    within Stress = lit≤ tt

day_few : unrounded_of day_meaning day_settings day_stocks (1200 ∷ []) day_book ≡ pos (222259018051 * 10 ^ 14 * 4)
unfolding all_figures
day_few = refl

day_rounded : figures_of day_meaning day_settings day_stocks (1200 ∷ []) day_book ≡ day_answer
unfolding all_figures
day_rounded = refl

-- ---- one rate

abbrev side_stocks : List ℕ
side_stocks = 5 ∷ (700 ∷ [])

abbrev side_book : Book
side_book = book_after 16 two_sides

side_held : (k : Kind) (x : ℕ) → (In x side_stocks → ⊥) → side_book.held k x ≡ false
side_held k x n =
    let a : eqb x 5 ≡ false = ne_eqb x 5 (λ e. n (inl e)) in
    let b : eqb x 700 ≡ false = ne_eqb x 700 (λ e. n (inr (inl e))) in
    simp (a, b, and_false)

side_within : (x : ℕ) → In x side_stocks → In x all_stocks
side_within x (inl e) = stock_in x (omega arith) (omega arith)
side_within x (inr (inl e)) = stock_in x (omega arith) (omega arith)
side_within x (inr (inr i)) = absurd i

side_holds : Holds (fallback_meaning 600) side_stocks (600 ∷ []) side_book
side_holds =
    record {
      stocks_apart = search rules;
      rates_apart = (λ i. i, tt);
      stocks_within = side_within;
      rates_within = λ q. elim [ inl e ↦ rate_in q (omega arith) | inr i ↦ absurd i ];
      others = side_held;
      rates = λ x q i f e. inl (rate_one (nat_le 1 x && nat_le x 99999) 600 q e);
    }

side_tails : TailsWithin (fallback_meaning 600)
side_tails = record { at = within }
  where
    within : (w : ScenarioSet) → (scenarios (fallback_meaning 600) w).tail ≤ (scenarios (fallback_meaning 600) w).count
    within Historical = lit≤ tt
    within Stress = lit≤ tt

side_figures : figures_of (fallback_meaning 600) plain_settings side_stocks (600 ∷ []) side_book ≡ figures_of (fallback_meaning 600) plain_settings all_stocks all_rates side_book
side_figures = few_figures (fallback_meaning 600) side_tails plain_settings side_book (held_alone (runs 16 two_sides [])) side_stocks (600 ∷ []) side_holds

side_flat : flat_margin (fallback_meaning 600) plain_settings side_stocks (600 ∷ []) (side_book.market Stock) ≡ pos 60000
unfolding all_figures
side_flat = refl

side_rounded : rounded_margin (fallback_meaning 600) plain_settings side_stocks (600 ∷ []) side_book ≡ pos 250000
unfolding all_figures
side_rounded = refl

flat_is : (m : Meaning) (s : Settings) (us qs : List ℕ) (b : Book) → (figures_of m s us qs b).flat_rate ≡ flat_margin m s us qs (b.market Stock)
unfolding figures_of
flat_is m s us qs b = refl

rounded_is : (m : Meaning) (s : Settings) (us qs : List ℕ) (b : Book) → (figures_of m s us qs b).rounded ≡ rounded_margin m s us qs b
unfolding figures_of
rounded_is m s us qs b = refl

pub worked_figures : WorkedFigures
unfolding all_figures
worked_figures =
    record {
      product_up = refl;
      product_down = refl;
      group_total = refl;
      rounded_up = refl;
      rounded_stays = refl;
      historical_gain = refl;
      stress_gain = refl;
      gain_is_negative = refl;
      day_figures = sym (few_figures day_meaning day_tails day_settings day_book (held_alone (runs 16 day_calls [])) day_stocks (1200 ∷ []) day_holds) ∙ day_rounded;
      day_unrounded = sym (few_unrounded day_meaning day_tails day_settings day_book (held_alone (runs 16 day_calls [])) day_stocks (1200 ∷ []) day_holds) ∙ day_few;
      single_flat = sym (flat_is (fallback_meaning 600) plain_settings all_stocks all_rates side_book) ∙ ap (λ a. a.flat_rate) (sym side_figures) ∙ flat_is (fallback_meaning 600) plain_settings side_stocks (600 ∷ []) side_book ∙ side_flat;
      single_rounded = sym (rounded_is (fallback_meaning 600) plain_settings all_stocks all_rates side_book) ∙ ap (λ a. a.rounded) (sym side_figures) ∙ rounded_is (fallback_meaning 600) plain_settings side_stocks (600 ∷ []) side_book ∙ side_rounded;
    }
