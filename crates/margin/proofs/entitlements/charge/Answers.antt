use Rattle.std.proofs.Common.{◌≤◌, pos, ◌-ℤ◌, ◌*ℤ◌, nat_abs, ◌∙◌, arith, w64, FitsSigned}
use Rattle.std.proofs.lemmas.Int.{ints, to_z-of_z}
use Rattle.margin.proofs.Numbers.{product_within, through_product}
use Rattle.margin.proofs.CostLaws.{short_charge}
use Rattle.margin.proofs.entitlements.charge.Goals as goal

pub returns-else-dollars-gt0-clause-value : goal.returns-else-dollars-gt0-clause-value
returns-else-dollars-gt0-clause-value c =
    let v = c.args.value.dollars in
    let q = c.args.short in
    let fv : FitsSigned w64 v = omega (arith, ints, c.args.value.small) in
    let minus : nat_abs (pos 0 -ℤ v) ≤ 20000000000 = omega (arith, ints, c.args.value.small) in
    let fm : FitsSigned w64 (pos 0 -ℤ v) = omega (arith, ints, minus) in
    let fq : FitsSigned w64 (pos q) = omega (arith, ints, c.requires.short) in
    let size = product_within (pos 0 -ℤ v) (pos q) 20000000000 40000 minus c.requires.short in
    let fp : FitsSigned w64 ((pos 0 -ℤ v) *ℤ pos q) = omega (arith, ints, size) in
    rw (to_z-of_z w64 v fv, c.from-else-dollars-gt0.ensures) (through_product w64 (pos 0 -ℤ v) (pos q) fm fq fp ∙ short_charge c.args.long q v (omega (arith, ints, c.if-dollars-gt0.false)))
