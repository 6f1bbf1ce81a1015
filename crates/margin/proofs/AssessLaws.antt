-- The answer of an assessment, where no question ahead of the margins refuses it.
use Rattle.std.proofs.Common.{◌≡◌, ◌≤◌, true, false, cond, ℤ, pos, None, Err, Result, sym, ap, ◌∙◌, arith, w64, FitsSigned, to_z, of_z, int_lt, int_le, ◌≤ℤ◌, nat_abs}
use Rattle.std.proofs.lemmas.Int.{ints, to_z-of_z}
use Rattle.return_source.specs.Meaning.{Meaning}
use Rattle.ledger.specs.declared.terms.Settings.{Settings}
use Rattle.margin_rules.specs.declared.terms.Room.{Room}
use Rattle.margin_rules.specs.declared.terms.Assessment.{Assessment}
use Rattle.margin_rules.specs.declared.terms.AssessmentRefusal.{AssessmentRefusal}
use Rattle.margin_rules.specs.declared.terms.AssessmentRefusal.TheVariants.{Sheets, GrossMarketValue}
use Rattle.margin_rules.specs.Positions.{Book, all_stocks, gross_of}
use Rattle.margin_rules.specs.Charges.{all_rates}
use Rattle.margin_rules.specs.Requirement.{figures_of}
use Rattle.margin_rules.specs.Answers.{fits, uncovered_of, unless_uncovered, unless_large, most_gross, assessment}

-- a gross market value that the code found within its limit is within it
pub gross_within : (r z : ℤ) → nat_abs r ≤ 9000000000000000000 → int_lt (pos 20000000000) (to_z w64 (of_z w64 r)) ≡ false → r ≡ z → z ≤ℤ pos 20000000000
gross_within r z b h e =
    let f : FitsSigned w64 r = omega (arith, ints, b) in
    let k : int_lt (pos 20000000000) r ≡ false = ap (int_lt (pos 20000000000)) (sym (to_z-of_z w64 r f)) ∙ h in
    let l : r ≤ℤ pos 20000000000 = grind (arith, ints, k) in
    omega (arith, ints, l, e)

pub within_test : (z : ℤ) → z ≤ℤ pos 20000000000 → int_le z most_gross ≡ true
within_test z h = grind (arith, ints, h)

pub answer_is : (m : Meaning) (s : Settings) (b : Book) (l : Room) (r : Result Assessment AssessmentRefusal) → fits m l ≡ true → uncovered_of m all_stocks b.held ≡ None → gross_of all_stocks b.market ≤ℤ pos 20000000000 → r ≡ unless_large (figures_of m s all_stocks all_rates b) → r ≡ assessment m s b l
answer_is m s b l r e f g h =
    let rest : Result Assessment AssessmentRefusal = cond (int_le (gross_of all_stocks b.market) most_gross) (unless_large (figures_of m s all_stocks all_rates b)) (Err GrossMarketValue) in
    h
    ∙ sym (ap (λ t. cond t (unless_large (figures_of m s all_stocks all_rates b)) (Err GrossMarketValue)) (within_test (gross_of all_stocks b.market) g))
    ∙ sym (ap (λ o. unless_uncovered o rest) f)
    ∙ sym (ap (λ t. cond t (unless_uncovered (uncovered_of m all_stocks b.held) rest) (Err Sheets)) e)
