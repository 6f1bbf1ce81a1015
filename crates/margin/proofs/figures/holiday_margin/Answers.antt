use Rattle.std.proofs.Common.{◌≡◌, ◌*◌, ◌^◌, ◌≤◌, unsigned_abs, ap, ◌∙◌, arith, w64}
use Rattle.std.proofs.Math.Nat.{mul-le-mul_right}
use Rattle.std.proofs.lemmas.Int.{to_z-of_z}
use Rattle.amounts.specs.Rounding.{round_off}
use Rattle.margin.proofs.RoundSizes.{round_small, wide, narrow}
use Rattle.margin.proofs.figures.holiday_margin.Goals as goal

pub returns-clause-bound : goal.returns-clause-bound
returns-clause-bound c =
    let n = unsigned_abs c.args.charged in
    let p = c.product.result in
    let k : c.args.factor * n ≤ 10 ^ 10 * n = mul-le-mul_right {m = c.args.factor} {n = 10 ^ 10} n c.requires.factor in
    let f : unsigned_abs p ≤ c.args.factor * n = rw (to_z-of_z w64 c.args.charged c.ranges.charged) at c.product.ensures.bound in
    let top : n ≤ 4000000000000000000 = c.requires.size in
    let s : unsigned_abs p ≤ 10 ^ 10 * n = omega arith in
    let e : c.round_off.result ≡ round_off (10 ^ 10) p = c.round_off.ensures ∙ ap (round_off (10 ^ 10)) (wide p (omega arith)) in
    let b = round_small (10 ^ 10) p n (omega arith) s in
    let z : unsigned_abs c.round_off.result ≤ n = omega (arith, ap unsigned_abs e) in
    rw (narrow c.round_off.result (omega arith)) z
