-- The tail, kept outcome by outcome.
use Rattle.std.proofs.Common.{◌≡◌, ℕ, zero, suc, ◌+◌, ◌<◌, ◌≤◌, true, false, List, [], ◌∷◌, ◌++◌, map, length, get_or, take, ℤ, pos, nat_abs, ◌≤ℤ◌, sym, refl, ap, ◌∙◌, zero-add, arith}
use Rattle.std.specs.List.{AllByRecursion as All}
use Rattle.std.proofs.lemmas.Int.{ints}
use Rattle.std.proofs.lemmas.Bool.Decides.{nat_tests}
use Rattle.amounts.specs.Sums.{sum_of}
use Rattle.amounts.specs.Tails.{tail_sum}
use Rattle.amounts.specs.FirstFew.{keep, kept, GoesBy}
use Rattle.amounts.proofs.Keep.{kept_sum}
use Rattle.std.proofs.lemmas.List.{take_more}
use Rattle.first_few.proofs.Kept.{kept_all}
use Rattle.first_few.proofs.Offers.{Offered, offered_more}
use Rattle.margin_rules.specs.declared.terms.Outcome.{Outcome}
use Rattle.margin_rules.specs.Answers.{worse}
use Rattle.margin.specs.Outcomes.{outcomes}
use Rattle.margin_rules.specs.contracts.orders.OutcomeOrder.TheImpl.Laws.{strict-law}

worse_yes : (a b : Outcome) → worse a b ≡ true → a.total ≤ℤ b.total
worse_yes a b e = grind (arith, ints, nat_tests)

worse_no : (a b : Outcome) → worse a b ≡ false → b.total ≤ℤ a.total
worse_no a b e = grind (arith, ints, nat_tests)

by_total : GoesBy worse (λ o. o.total)
by_total = record { yes = worse_yes; no = worse_no }

pub length_outcomes : (n : ℕ) (ts : List ℤ) → length (outcomes n ts) ≡ length ts
length_outcomes n [] = refl
length_outcomes n (t ∷ ts) = ap suc (length_outcomes (n + 1) ts)

totals_are : (n : ℕ) (ts : List ℤ) → map (λ o. o.total) (outcomes n ts) ≡ ts
totals_are n [] = refl
totals_are n (t ∷ ts) = ap (λ l. t ∷ l) (totals_are (n + 1) ts)

outcome_at : (n : ℕ) (ts : List ℤ) (i : ℕ) (d : Outcome) → i < length ts → get_or (outcomes n ts) i d ≡ record { total = get_or ts i (pos 0); scenario = n + i }
outcome_at n [] i d h = absurd (omega arith)
outcome_at n (t ∷ ts) zero d h = let e : n ≡ n + 0 = omega arith in ap (λ s. record { total = t; scenario = s }) e
outcome_at n (t ∷ ts) (suc i) d h =
    let e : n + 1 + i ≡ n + suc i = omega arith in
    outcome_at (n + 1) ts i d (omega arith) ∙ ap (λ s. record { total = get_or ts i (pos 0); scenario = s }) e

pub all_outcomes : (b n : ℕ) (ts : List ℤ) → All (λ t. nat_abs t ≤ b) ts → All (λ o. nat_abs o.total ≤ b) (outcomes n ts)
all_outcomes b n [] a = tt
all_outcomes b n (t ∷ ts) a = (a.0, all_outcomes b (n + 1) ts a.1)

-- one outcome more
pub tailed_more : (n : ℕ) (ts : List ℤ) (i : ℕ) (places more : List Outcome) (len now : ℕ) (t : ℤ) → i < length ts → t ≡ get_or ts i (pos 0) → take now more ≡ keep worse (length places) (take len places) (record { total = t; scenario = i }) → length more ≡ length places → Offered worse n (take i (outcomes 0 ts)) places len → Offered worse n (take (i + 1) (outcomes 0 ts)) more now
tailed_more n ts i places more len now t h e k l s =
    let o : Outcome = record { total = t; scenario = i } in
    let at : get_or (outcomes 0 ts) i o ≡ o = outcome_at 0 ts i o h ∙ (λ j. record { total = sym e j; scenario = zero-add i j }) in
    let next : take (i + 1) (outcomes 0 ts) ≡ take i (outcomes 0 ts) ++ o ∷ [] =
    take_more (outcomes 0 ts) i o (omega (arith, length_outcomes 0 ts)) ∙ ap (λ x. take i (outcomes 0 ts) ++ x ∷ []) at in
    rw next (offered_more worse n (take i (outcomes 0 ts)) places more len now o k l s)

pub tailed_all : (n : ℕ) (ts : List ℤ) (i : ℕ) (places : List Outcome) (len : ℕ) → length ts ≤ i → Offered worse n (take i (outcomes 0 ts)) places len → take len places ≡ kept worse n (outcomes 0 ts)
tailed_all n ts i places len h s = s.is ∙ kept_all worse n (outcomes 0 ts) i (omega (arith, length_outcomes 0 ts))

pub tail_is : (n : ℕ) (ts : List ℤ) → n ≤ length ts → sum_of (λ o. o.total) (kept worse n (outcomes 0 ts)) ≡ tail_sum n ts
tail_is n ts h = kept_sum worse (λ o. o.total) strict-law by_total n (outcomes 0 ts) (omega (arith, length_outcomes 0 ts)) ∙ ap (tail_sum n) (totals_are 0 ts)
