-- Accounts that hold the same places, each once, have the same positions, and so are assessed alike.
use Rattle.std.proofs.Common.{◌≡◌, ◌≢◌, Bool, true, false, cond, ◌||◌, List, [], ℤ, Err, Result, sym, refl, ap, ◌∙◌, ap₂, int_le}
use Rattle.amounts.specs.Sums.{sum_of}
use Rattle.amounts.proofs.Sets.{same_sum, same_fold}
use Rattle.ledger.specs.declared.terms.Place.{Place}
use Rattle.ledger.specs.Calls.{runs}
use Rattle.ledger.specs.Laws.{SamePlaces}
use Rattle.ledger.proofs.Order.{order_does_not_count}
use Rattle.return_source.specs.Meaning.{Meaning}
use Rattle.ledger.specs.declared.terms.Settings.{Settings}
use Rattle.margin_rules.specs.declared.terms.Assessment.{Assessment}
use Rattle.margin_rules.specs.declared.terms.AssessmentRefusal.{AssessmentRefusal}
use Rattle.margin_rules.specs.declared.terms.AssessmentRefusal.TheVariants.{Sheets, GrossMarketValue}
use Rattle.margin_rules.specs.Positions.{Book, book, market_in, held_in, mark_in, any_place, all_stocks, gross_of}
use Rattle.margin_rules.specs.Charges.{all_rates}
use Rattle.margin_rules.specs.Requirement.{figures_of}
use Rattle.margin_rules.specs.Answers.{list_of, fits, unless_uncovered, uncovered_of, most_gross, unless_large}
use Rattle.margin_rules.specs.Laws.{OrderDoesNotCount}

or_swap : (a b c : Bool) → a || (b || c) ≡ b || (a || c)
or_swap true true c = refl
or_swap true false c = refl
or_swap false true c = refl
or_swap false false c = refl

-- the same places in any order make the same positions
pub same_book : (s t : List Place) → SamePlaces s t → book s ≡ book t
same_book s t p = λ i. record { market = λ k x. sums (market_in k x) i; held = λ k x. anys (held_in k x) i; mark = sums mark_in i }
  where
    sums : (f : Place → ℤ) → sum_of f s ≡ sum_of f t
    sums f = same_sum f s t p.apart_left p.apart_right p.to p.from

    anys : (f : Place → Bool) → any_place f s ≡ any_place f t
    anys f = same_fold (λ p b. f p || b) (λ u v c. or_swap (f u) (f v) c) false s t p.apart_left p.apart_right p.to p.from

-- the answer once the places are enough
abbrev answer : Meaning → Settings → Book → Result Assessment AssessmentRefusal
answer m s b =
    unless_uncovered (uncovered_of m all_stocks b.held)
    (cond (int_le (gross_of all_stocks b.market) most_gross) (unless_large (figures_of m s all_stocks all_rates b)) (Err GrossMarketValue))

enough : (t : Bool) (r : Result Assessment AssessmentRefusal) → (cond t r (Err Sheets) ≢ Err Sheets) → cond t r (Err Sheets) ≡ r
enough true r n = refl
enough false r n = absurd (n refl)

pub order_does_not_matter : OrderDoesNotCount
order_does_not_matter m ok s placesA placesB a b same k l e fitsA fitsB =
    let p = same_book (runs placesA a []) (runs placesB b []) (order_does_not_count placesA placesB a b same) in
    record {
      answers = enough (fits m k) (answer m s (book (runs placesA a []))) fitsA ∙ ap (answer m s) p ∙ sym (enough (fits m l) (answer m s (book (runs placesB b []))) fitsB);
      lists = ap₂ (λ n c. list_of n all_stocks c) e p;
    }
