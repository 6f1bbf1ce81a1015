use Rattle.std.proofs.Common.{◌≡◌, ◌*◌, ◌≤◌, pos, ◌*ℤ◌, ap, ◌∙◌, arith, w64, FitsSigned, mul-le-mul}
use mir.Syntax.{w128}
use Rattle.std.proofs.lemmas.Int.{ints, to_z-of_z}
use Rattle.margin.proofs.Numbers.{product_within, through_product}
use Rattle.margin.proofs.flats.charge.Goals as goal

pub returns-clause-value : goal.returns-clause-value
returns-clause-value c =
    let r = c.args.rate in
    let k = c.args.multiplier in
    let s = c.args.side in
    let few : r * k ≤ 10000 * 400 = mul-le-mul c.requires.rate c.requires.multiplier in
    let fs : FitsSigned w64 s = omega (arith, ints, c.requires.side) in
    let is : c.from-3.result ≡ pos (r * k) = c.from-3.ensures ∙ ap pos (ap (λ n. n * c.from-2.result) c.from.ensures ∙ ap (λ n. r * n) c.from-2.ensures) in
    let it : c.from-4.result ≡ s = c.from-4.ensures ∙ to_z-of_z w64 s fs in
    let size = product_within (pos (r * k)) s (10000 * 400) 81920000000000 few c.requires.side in
    let fa : FitsSigned w128 (pos (r * k)) = omega (arith, ints, few) in
    let fb : FitsSigned w128 s = omega (arith, ints, c.requires.side) in
    let fp : FitsSigned w128 (pos (r * k) *ℤ s) = omega (arith, ints, size) in
    rw (is, it) (through_product w128 (pos (r * k)) s fa fb fp)

pub returns-clause-bound : goal.returns-clause-bound
returns-clause-bound c =
    let r = c.args.rate in
    let k = c.args.multiplier in
    let s = c.args.side in
    let few : r * k ≤ 10000 * 400 = mul-le-mul c.requires.rate c.requires.multiplier in
    let fs : FitsSigned w64 s = omega (arith, ints, c.requires.side) in
    let size = product_within (pos (r * k)) s (10000 * 400) 81920000000000 few c.requires.side in
    let value = returns-clause-value c in
    rw value (omega (arith, size))
