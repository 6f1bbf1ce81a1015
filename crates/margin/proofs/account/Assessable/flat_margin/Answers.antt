use Rattle.std.proofs.Common.{◌≡◌, nat_abs, ap, ◌∙◌, arith}
use Rattle.amounts.specs.Rounding.{round_off}
use Rattle.margin_rules.specs.Charges.{flat_margin}
use Rattle.margin.proofs.RoundSizes.{round_small, wide, narrow}
use Rattle.margin.proofs.account.Assessable.flat_margin.Goals as goal

pub returns-clause-value : goal.returns-clause-value
unfolding flat_margin
returns-clause-value g c =
    let s = c.flat_sum.result in
    let z = c.round_off.result in
    let bound = c.flat_sum.ensures.bound in
    let small = round_small 1000000 s 1342177280000000000 (omega arith) (omega (arith, bound)) in
    let is : z ≡ round_off 1000000 s = c.round_off.ensures ∙ ap (round_off 1000000) (wide s (omega (arith, bound))) in
    narrow z (omega (arith, small, ap nat_abs is)) ∙ is ∙ ap (round_off 1000000) c.flat_sum.ensures.value
