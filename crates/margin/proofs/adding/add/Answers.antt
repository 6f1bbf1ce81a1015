use Rattle.std.proofs.Common.{◌≡◌, ◌≤◌, ◌^◌, get_or, pos, ◌*ℤ◌, nat_abs, ap, ◌∙◌, arith, w32, SFits}
use Rattle.std.proofs.ByRecursion.{All-get_or}
use Rattle.std.proofs.lemmas.List.{take_all}
use Rattle.std.proofs.lemmas.Int.{ints, to_z-of_z}
use Rattle.amounts.specs.Rounding.{round_off}
use Rattle.margin.proofs.Rows.{added, added_is, sum_fits, one_more}
use Rattle.margin.proofs.adding.add.Goals as goal

pub overflow_add-totals : goal.overflow_add-totals
overflow_add-totals c =
    sum_fits c.args.value.dollars c.args.row.now c.args.totals.now c.loop-i.totals c.loop-i.i c.rounded_product.result c.loop-i.invariant (omega arith) (omega arith) c.requires.totals c.rounded_product.ensures.bound

pub loop-i-preserved : goal.loop-i-preserved
loop-i-preserved c =
    let r = get_or c.args.row.now c.loop-i.i (pos 0) in
    let small : nat_abs r ≤ 400000000 = All-get_or (λ r. nat_abs r ≤ 400000000) c.args.row.now c.loop-i.i (pos 0) (omega arith) c.requires.returns in
    let fits : SFits w32 r = omega (arith, ints) in
    let is : c.rounded_product.result ≡ round_off (10 ^ 8) (c.args.value.dollars *ℤ r) = c.rounded_product.ensures.value ∙ ap (λ x. round_off (10 ^ 8) (c.args.value.dollars *ℤ x)) (to_z-of_z w32 r fits) in
    one_more c.args.value.dollars c.args.row.now c.args.totals.now c.loop-i.totals c.loop-i.i c.rounded_product.result c.loop-i.invariant (omega arith) (omega arith) c.requires.totals c.rounded_product.ensures.bound is

pub returns : goal.returns
returns c =
    c.loop-i.invariant ∙ (λ j. added c.args.value.dollars (take_all c.loop-i.i c.args.row.now c.loop-i-test.false j) c.args.totals.now)
    ∙ added_is c.args.value.dollars c.args.row.now c.args.totals.now
