use Rattle.std.proofs.Common.{◌≡◌, nat_abs, ap, ◌∙◌, arith}
use Rattle.amounts.specs.Rounding.{round_off}
use Rattle.margin_rules.specs.Charges.{corporate_margin}
use Rattle.margin.proofs.RoundSizes.{round_small, wide, narrow}
use Rattle.margin.proofs.account.Assessable.corporate_margin.Goals as goal

pub returns-clause-value : goal.returns-clause-value
unfolding corporate_margin
returns-clause-value g c =
    let s = c.corporate_sum.result in
    let z = c.round_off.result in
    let bound = c.corporate_sum.ensures.bound in
    let small = round_small 10000 s 983040000000000 (omega arith) (omega (arith, bound)) in
    let is : z ≡ round_off 10000 s = c.round_off.ensures ∙ ap (round_off 10000) (wide s (omega (arith, bound))) in
    narrow z (omega (arith, small, ap nat_abs is)) ∙ is ∙ ap (round_off 10000) c.corporate_sum.ensures.value
