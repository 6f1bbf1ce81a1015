use Rattle.std.proofs.Common.{◌≡◌, ◌≤◌, length, unsigned_abs, ap, arith, w64, FitsSigned}
use Rattle.std.proofs.lemmas.Int.{ints, to_z-of_z}
use Rattle.amounts.specs.Tails.{tail_sum}
use Rattle.margin_rules.specs.Portfolio.{scenarios}
use Rattle.margin.proofs.Products.{tail_few}
use Rattle.margin.proofs.TailSizes.{tail_small}
use Rattle.margin.proofs.account.Assessable.own_tail.Goals as goal

pub returns-clause-bound : goal.returns-clause-bound
returns-clause-bound g c =
    let m = g.S.ReturnSource.meaning c.args.self.now.source.now in
    let k : (scenarios m c.args.set).tail ≤ 100 = tail_few m (g.met.S.ReturnSource.lawful c.args.self.now.source.now) c.args.set in
    let few : length c.args.tail.now ≤ 100 = omega (arith, c.requires.places) in
    let b = tail_small 80000000000 (length c.args.tail.now) c.own_totals.new.totals c.own_totals.ensures.bound in
    let e : c.tail_sum.result ≡ tail_sum (length c.args.tail.now) c.own_totals.new.totals = c.tail_sum.ensures.value in
    let f : FitsSigned w64 c.tail_sum.result = omega (arith, ints, c.tail_sum.ensures.bound) in
    rw (to_z-of_z w64 c.tail_sum.result f) (omega (arith, ap unsigned_abs e))
