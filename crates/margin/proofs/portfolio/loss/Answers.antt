use Rattle.std.proofs.Common.{◌*◌, pos, ◌+ℤ◌, ◌*ℤ◌, neg_ℤ, ap, ◌∙◌, arith, w64, FitsSigned}
use Rattle.std.proofs.lemmas.Int.{ints, to_z-of_z}
use Rattle.margin.proofs.Losses.{weighed_by, both_by, tails_few, negated, negated_small}
use Rattle.margin.proofs.portfolio.loss.Goals as goal

pub returns-clause-value : goal.returns-clause-value
returns-clause-value g c =
    let m = g.S.ReturnSource.meaning c.args.source.now in
    let p = c.parameters.result in
    let few = tails_few m (g.met.S.ReturnSource.lawful c.args.source.now) p c.parameters.ensures in
    let t = c.args.tails in
    let a : FitsSigned w64 t.historical = omega (arith, ints, c.requires.historical) in
    let b : FitsSigned w64 t.stress = omega (arith, ints, c.requires.stress) in
    let h = c.weighted-h.ensures.value ∙ ap (λ z. pos (p.historical.weight.ten_thousandths * p.stress.tail) *ℤ z) (to_z-of_z w64 t.historical a) in
    let s = c.weighted-s.ensures.value ∙ ap (λ z. pos (p.stress.weight.ten_thousandths * p.historical.tail) *ℤ z) (to_z-of_z w64 t.stress b) in
    negated c.weighted-h.result c.weighted-s.result (omega (arith, c.weighted-h.ensures.bound, few.1)) (omega (arith, c.weighted-s.ensures.bound, few.0))
    ∙ (λ i. neg_ℤ (h i +ℤ s i)) ∙ weighed_by m p t.historical t.stress c.parameters.ensures

pub returns-clause-bound : goal.returns-clause-bound
returns-clause-bound g c =
    let m = g.S.ReturnSource.meaning c.args.source.now in
    let law = g.met.S.ReturnSource.lawful c.args.source.now in
    let p = c.parameters.result in
    let few = tails_few m law p c.parameters.ensures in
    let k = both_by m law p c.parameters.ensures in
    let r = negated c.weighted-h.result c.weighted-s.result (omega (arith, c.weighted-h.ensures.bound, few.1)) (omega (arith, c.weighted-s.ensures.bound, few.0)) in
    rw r (omega (arith, negated_small c.weighted-h.result c.weighted-s.result, c.weighted-h.ensures.bound, c.weighted-s.ensures.bound, k))
