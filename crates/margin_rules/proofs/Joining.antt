-- An account with the live entries of two others never costs more than both: every figure adds at most, stock by stock.
use Rattle.std.proofs.Common.{◌≡◌, ℕ, ◌+◌, ◌*◌, ◌^◌, ◌≤◌, Bool, true, cond, List, [], ◌∷◌, ◌++◌, ℤ, pos, ◌+ℤ◌, ◌-ℤ◌, ◌*ℤ◌, refl, ap, ◌∙◌, mul-add, arith}
use Rattle.std.specs.List.Sorted.{IsPermutation}
use Rattle.std.proofs.lemmas.Int.{ints}
use Rattle.amounts.specs.Sums.{sum_of}
use Rattle.amounts.specs.Tails.{tail_sum}
use Rattle.amounts.proofs.Whole.{mul_z_add, sum_of_append, when_mul, sum_adds}
use Rattle.amounts.proofs.Near.{Under, Over, when_under, when_over, sum_under, sum_over, mul_under, mul_over, max_under, add_under, add_over, neg_under, tail_map, pos_under}
use Rattle.amounts.proofs.Charge.{long_adds, short_adds, sided_under, due_under}
use Rattle.amounts.proofs.Permuted.{sum_shuffled}
use Rattle.return_source.specs.declared.terms.ScenarioSet.{ScenarioSet}
use Rattle.return_source.specs.declared.terms.ScenarioSet.TheVariants.{Historical, Stress}
use Rattle.return_source.specs.Meaning.{Meaning}
use Rattle.return_source.specs.Lawful.{Lawful}
use Rattle.ledger.specs.declared.terms.Kind.{Kind}
use Rattle.ledger.specs.declared.terms.Kind.TheVariants.{Stock}
use Rattle.ledger.specs.declared.terms.Settings.{Settings}
use Rattle.ledger.specs.declared.terms.Entry.{Entry}
use Rattle.ledger.specs.declared.terms.Place.{Place}
use Rattle.ledger.specs.declared.terms.Place.TheVariants.{Free, Live, Cancelled}
use Rattle.ledger.specs.Table.{entries}
use Rattle.ledger.specs.Calls.{runs}
use Rattle.margin_rules.specs.Positions.{Book, book, is_of, market_in, mark_in, entitlement_kinds, all_stocks}
use Rattle.margin_rules.specs.Portfolio.{scenarios, return_at, in_portfolio, is_common, is_own, common_totals, own_totals, tails_of, loss_of, side_of, both_tails}
use Rattle.margin_rules.specs.Charges.{all_rates, at_rate, flat_of, entitlement_of, long_percentage, short_percentage, corporate_of}
use Rattle.margin_rules.specs.Requirement.{given_inside, given_beside}
use Rattle.margin_rules.specs.Unrounded.{all_figures, scale, exact_portfolio, exact_charged, exact_aggregate, unrounded_of}
use Rattle.margin_rules.specs.Laws.{Together, JoiningNeverCostsMore}

pub tail_within : (m : Meaning) → Lawful m → (w : ScenarioSet) → (scenarios m w).tail ≤ (scenarios m w).count
tail_within m ok Historical = ok.parameters.historical.tail_within
tail_within m ok Stress = ok.parameters.stress.tail_within

module _ (m : Meaning) (s : Settings) (us qs : List ℕ) (ok : Lawful m) (f g h : ℕ → ℤ) (e : (x : ℕ) → h x ≡ f x +ℤ g x) where
  common_over : (w : ScenarioSet) → Over (tail_sum (scenarios m w).tail (common_totals ◌*ℤ◌ m s us w h)) (tail_sum (scenarios m w).tail (common_totals ◌*ℤ◌ m s us w f)) (tail_sum (scenarios m w).tail (common_totals ◌*ℤ◌ m s us w g))
  common_over w =
      tail_map (scenarios m w).tail (scenarios m w).count _ _ _ (tail_within m ok w)
      (λ i. sum_adds _ _ _ us (λ x. when_mul (is_common m s x) (h x) (f x) (g x) (return_at (m.returns w x) i) (e x)))

  own_over : (w : ScenarioSet) (x : ℕ) → Over (tail_sum (scenarios m w).tail (own_totals ◌*ℤ◌ m w h x)) (tail_sum (scenarios m w).tail (own_totals ◌*ℤ◌ m w f x)) (tail_sum (scenarios m w).tail (own_totals ◌*ℤ◌ m w g x))
  own_over w x = tail_map (scenarios m w).tail (scenarios m w).count _ _ _ (tail_within m ok w) (λ i. when_mul true (h x) (f x) (g x) (return_at (m.returns w x) i) (e x))

  tails_over : (w : ScenarioSet) → Over (tails_of ◌*ℤ◌ m s us w h) (tails_of ◌*ℤ◌ m s us w f) (tails_of ◌*ℤ◌ m s us w g)
  unfolding all_figures
  tails_over w = add_over (common_over w) (sum_over us (λ x. when_over (is_own m s x) (own_over w x)))

  loss_under : Under (loss_of ◌*ℤ◌ m s us h) (loss_of ◌*ℤ◌ m s us f) (loss_of ◌*ℤ◌ m s us g)
  unfolding all_figures
  loss_under =
      neg_under (add_over (mul_over (m.parameters.historical.weight.ten_thousandths * m.parameters.stress.tail) (tails_over Historical)) (mul_over (m.parameters.stress.weight.ten_thousandths * m.parameters.historical.tail) (tails_over Stress)))

  side_under : (member : ℕ → Bool) → Under (side_of us member h) (side_of us member f) (side_of us member g)
  unfolding all_figures
  side_under member =
      max_under (sum_under us (λ x. when_under (member x) (record { le = rw (e x) (long_adds (f x) (g x)) }))) (sum_under us (λ x. when_under (member x) (record { le = rw (e x) (short_adds (f x) (g x)) })))

  portfolio_under : Under (exact_portfolio m s us h) (exact_portfolio m s us f) (exact_portfolio m s us g)
  unfolding all_figures
  portfolio_under = max_under loss_under (mul_under (10 ^ 8) (mul_under (s.floor_rate * both_tails m) (side_under (in_portfolio m))))

  flat_under : Under (flat_of m s us qs h) (flat_of m s us qs f) (flat_of m s us qs g)
  unfolding all_figures
  flat_under = sum_under qs (λ q. mul_under (q * s.multiplier) (side_under (at_rate m q)))

  charged_under : Under (exact_charged m s us qs h) (exact_charged m s us qs f) (exact_charged m s us qs g)
  unfolding all_figures
  charged_under = add_under portfolio_under (mul_under (10 ^ 6 * both_tails m) flat_under)

corporate_under : (m : Meaning) (us : List ℕ) (f g h : Kind → ℕ → ℤ) → ((k : Kind) (x : ℕ) → h k x ≡ f k x +ℤ g k x) → Under (corporate_of m us h) (corporate_of m us f) (corporate_of m us g)
unfolding all_figures
corporate_under m us f g h e =
    sum_under entitlement_kinds (λ k. sum_under us (λ x. sided_under (long_percentage (entitlement_of m k x)) (short_percentage (entitlement_of m k x)) (h k x) (f k x) (g k x) (e k x)))

-- settings enter a charge by multiplier, floor rate and IPO stocks alone
charged_alike : (m : Meaning) (s u : Settings) (us qs : List ℕ) (f : ℕ → ℤ) → u.multiplier ≡ s.multiplier → u.floor_rate ≡ s.floor_rate → u.ipo ≡ s.ipo → exact_charged m u us qs f ≡ exact_charged m s us qs f
unfolding all_figures
charged_alike m s u us qs f a b c = λ i. exact_charged m (record { multiplier = a i; credit = s.credit; floor_rate = b i; given = s.given; ipo = c i }) us qs f

-- the positions of an account that has the live entries of two others
record Joined (a b c : Book) : Type 0 where
  market : (k : Kind) (x : ℕ) → c.market k x ≡ a.market k x +ℤ b.market k x
  mark : c.mark ≡ a.mark +ℤ b.mark

module _ (m : Meaning) (ok : Lawful m) (s t u : Settings) (w : Together s t u) (us qs : List ℕ) (a b c : Book) (j : Joined a b c) where
  charged_together : Under (exact_charged m u us qs (c.market Stock)) (exact_charged m s us qs (a.market Stock)) (exact_charged m t us qs (b.market Stock))
  charged_together =
      record {
        le =
            omega (
              arith,
              ints,
              (charged_under m u us qs ok (a.market Stock) (b.market Stock) (c.market Stock) (j.market Stock)).le,
              charged_alike m s u us qs (a.market Stock) w.multiplier_left w.floor_left w.ipo_left,
              charged_alike m t u us qs (b.market Stock) w.multiplier_right w.floor_right w.ipo_right,
            );
      }

  inside_adds : given_inside u ≡ given_inside s + given_inside t
  inside_adds = omega (arith, w.liquidation, w.structured_product)

  beside_adds : given_beside u ≡ given_beside s + given_beside t
  beside_adds = omega (arith, w.position_limit, w.credit_risk, w.ad_hoc)

  aggregate_under : Under (exact_aggregate m u us qs c) (exact_aggregate m s us qs a) (exact_aggregate m t us qs b)
  unfolding all_figures
  aggregate_under =
      add_under
      (add_under (mul_under (10 ^ 10 + m.parameters.holiday_factor) charged_together) (mul_under (10 ^ 18 * both_tails m) (corporate_under m us a.market b.market c.market j.market)))
      (pos_under (scale m) (given_inside s) (given_inside t) (given_inside u) inside_adds)

  unrounded_under : Under (unrounded_of m u us qs c) (unrounded_of m s us qs a) (unrounded_of m t us qs b)
  unfolding all_figures
  unrounded_under =
      add_under
      (due_under (exact_aggregate m u us qs c) (pos (scale m) *ℤ c.mark) (pos (scale m * u.credit)) (exact_aggregate m s us qs a) (pos (scale m) *ℤ a.mark) (pos (scale m * s.credit)) (exact_aggregate m t us qs b) (pos (scale m) *ℤ b.mark) (pos (scale m * t.credit)) aggregate_under
      (ap (λ z. pos (scale m) *ℤ z) j.mark ∙ mul_z_add (pos (scale m)) a.mark b.mark)
      (ap (λ n. pos (scale m * n)) w.credit ∙ ap pos (mul-add (scale m) s.credit t.credit)) (omega (arith, ints)) (omega (arith, ints)))
      (pos_under (scale m) (given_beside s) (given_beside t) (given_beside u) beside_adds)

-- a figure of places that is one of their live entries alone
record OfEntries (f : Place → ℤ) (g : Entry → ℤ) : Type 0 where
  free : f Free ≡ pos 0
  live : (n : ℕ) (e : Entry) → f (Live n e) ≡ g e
  cancelled : (n : ℕ) → f (Cancelled n) ≡ pos 0

sum_entries : (f : Place → ℤ) (g : Entry → ℤ) → OfEntries f g → (t : List Place) → sum_of f t ≡ sum_of g (entries t)
sum_entries f g o [] = refl
sum_entries f g o (Free ∷ t) = omega (arith, ints, o.free, sum_entries f g o t)
sum_entries f g o (Live n e ∷ t) = omega (arith, ints, o.live n e, sum_entries f g o t)
sum_entries f g o (Cancelled n ∷ t) = omega (arith, ints, o.cancelled n, sum_entries f g o t)

module _ (a b c : List Place) (p : IsPermutation (entries a ++ entries b) (entries c)) where
  joined_sum : (f : Place → ℤ) (g : Entry → ℤ) → OfEntries f g → sum_of f c ≡ sum_of f a +ℤ sum_of f b
  joined_sum f g o =
      omega (arith, ints, sum_entries f g o a, sum_entries f g o b, sum_entries f g o c, sum_shuffled g (entries a ++ entries b) (entries c) p, sum_of_append g (entries a) (entries b))

  joined : Joined (book a) (book b) (book c)
  joined =
      record {
        market = λ k x. joined_sum (market_in k x) (λ e. cond (is_of k x e) e.market_value (pos 0)) (record { free = refl; live = λ n e. refl; cancelled = λ n. refl });
        mark = joined_sum mark_in (λ e. e.market_value -ℤ e.contract_value) (record { free = refl; live = λ n e. refl; cancelled = λ n. refl });
      }

pub joining_never_costs_more : JoiningNeverCostsMore
joining_never_costs_more m ok s t u w placesA placesB placesC a b c p =
    (unrounded_under m ok s t u w all_stocks all_rates (book (runs placesA a [])) (book (runs placesB b [])) (book (runs placesC c [])) (joined (runs placesA a []) (runs placesB b []) (runs placesC c []) p)).le
