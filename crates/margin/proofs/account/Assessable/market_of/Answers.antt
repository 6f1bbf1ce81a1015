use Rattle.std.proofs.Common.{◌≤◌, nat_abs, sym, subst, ◌∙◌, arith, w64, FitsSigned}
use Rattle.std.proofs.lemmas.Int.{ints, to_z-of_z}
use Rattle.margin.proofs.account.Assessable.market_of.Goals as goal

pub invariant_of-result : goal.invariant_of-result
invariant_of-result g c =
    let r = c.market_of.result in
    let f : FitsSigned w64 r = omega (arith, ints, c.market_of.ensures.bound) in
    record { small = subst (λ z. nat_abs z ≤ 20000000000) (sym (to_z-of_z w64 r f ∙ c.market_of.ensures.value)) (c.args.self.now.small c.args.kind c.args.stock) }
