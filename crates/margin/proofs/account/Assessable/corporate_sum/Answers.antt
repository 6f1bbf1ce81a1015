use Rattle.std.proofs.Common.{◌+ℤ◌, arith, FitsSigned}
use mir.Syntax.{w128}
use Rattle.std.proofs.lemmas.Int.{ints, to_z-of_z}
use Rattle.amounts.specs.Sums.{sum_of}
use Rattle.margin_rules.specs.Positions.{market_in}
use Rattle.margin.proofs.CostLaws.{corporate_parts}
use Rattle.margin.proofs.account.Assessable.corporate_sum.Goals as goal

pub returns-clause-value : goal.returns-clause-value
returns-clause-value g c =
    let a = c.kind_cost.result in
    let b = c.kind_cost-2.result in
    let d = c.kind_cost-3.result in
    let fa : FitsSigned w128 a = omega (arith, ints, c.kind_cost.ensures.bound) in
    let fb : FitsSigned w128 b = omega (arith, ints, c.kind_cost-2.ensures.bound) in
    let fd : FitsSigned w128 d = omega (arith, ints, c.kind_cost-3.ensures.bound) in
    let fab : FitsSigned w128 (a +ℤ b) = omega (arith, ints, c.kind_cost.ensures.bound, c.kind_cost-2.ensures.bound) in
    let fs : FitsSigned w128 (a +ℤ b +ℤ d) = omega (arith, ints, c.kind_cost.ensures.bound, c.kind_cost-2.ensures.bound, c.kind_cost-3.ensures.bound) in
    rw (to_z-of_z w128 a fa, to_z-of_z w128 b fb, to_z-of_z w128 (a +ℤ b) fab, to_z-of_z w128 d fd, to_z-of_z w128 (a +ℤ b +ℤ d) fs)
    (corporate_parts (g.S.ReturnSource.meaning c.args.self.now.source.now) (λ k x. sum_of (market_in k x) c.args.self.now.account.places.now) a b d c.kind_cost.ensures.value c.kind_cost-2.ensures.value c.kind_cost-3.ensures.value)
