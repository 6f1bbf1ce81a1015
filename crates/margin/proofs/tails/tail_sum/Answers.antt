use Rattle.std.proofs.Common.{◌≤◌, length, nat_abs, sym, ap, ◌∙◌, subst, arith, w64, SFits}
use Rattle.std.specs.List.{AllByRecursion as All}
use Rattle.std.proofs.lemmas.Int.{ints, to_z-of_z}
use Rattle.amounts.specs.Sums.{sum_of}
use Rattle.first_few.proofs.Kept.{length_kept, all_kept}
use Rattle.margin_rules.specs.Answers.{worse}
use Rattle.margin.specs.Outcomes.{outcomes}
use Rattle.margin.proofs.Outcomes.{all_outcomes, tail_is}
use Rattle.margin.proofs.tails.tail_sum.Goals as goal

pub sum_totals-requires-clause-few : goal.sum_totals-requires-clause-few
sum_totals-requires-clause-few c =
    let n = length c.args.tail.now in
    omega (arith, ap length (c.kept.ensures ∙ c.keep_tail-first.ensures), length_kept worse n (outcomes 0 c.args.totals.now))

pub sum_totals-requires-clause-small : goal.sum_totals-requires-clause-small
sum_totals-requires-clause-small c =
    let ts = c.args.totals.now in
    subst (All (λ o. nat_abs o.total ≤ 400000000000000)) (sym (c.kept.ensures ∙ c.keep_tail-first.ensures))
    (all_kept worse (λ o. nat_abs o.total ≤ 400000000000000) (length c.args.tail.now) (outcomes 0 ts) (all_outcomes 400000000000000 0 ts c.requires.small))

pub returns-clause-value : goal.returns-clause-value
returns-clause-value c =
    let b = c.sum_totals.ensures.bound in
    let f : SFits w64 c.sum_totals.result = omega (arith, ints) in
    to_z-of_z w64 c.sum_totals.result f ∙ c.sum_totals.ensures.value ∙ ap (sum_of (λ o. o.total)) (c.kept.ensures ∙ c.keep_tail-first.ensures)
    ∙ tail_is (length c.args.tail.now) c.args.totals.now c.requires.room
