use Rattle.std.proofs.Common.{◌≡◌, ◌+ℤ◌, ◌∙◌, arith, w64, to_z, of_z}
use Rattle.std.proofs.lemmas.Int.{ints}
use Rattle.amounts.specs.Tails.{tail_sum}
use Rattle.margin_rules.specs.Portfolio.{scenarios, rounded_product, common_totals}
use Rattle.margin.specs.Groups.{held_stocks, stock_market}
use Rattle.margin.proofs.Held.{tails_are}
use Rattle.margin.proofs.account.Assessable.set_tails.Goals as goal

pub returns-clause-value : goal.returns-clause-value
returns-clause-value g c =
    let m = g.S.ReturnSource.meaning c.args.self.now.source.now in
    let xs = c.args.self.now.account.places.now in
    let w = c.args.set in
    let r = c.tail_sum-common.result in
    let o = c.own_tails-own.result in
    let same : to_z w64 (of_z w64 (to_z w64 (of_z w64 r) +ℤ to_z w64 (of_z w64 o))) ≡ r +ℤ o = omega (arith, ints, c.tail_sum-common.ensures.bound, c.own_tails-own.ensures.bound) in
    let e : r ≡ tail_sum (scenarios m w).tail (common_totals rounded_product m c.args.self.now.account.settings.now (held_stocks xs) w (stock_market xs)) =
    c.tail_sum-common.ensures.value ∙ (λ i. tail_sum (c.requires.places i) (c.common_totals.ensures.value i)) in
    same ∙ tails_are m c.args.self.now.account.settings.now xs c.args.self.now.account.sound w r o e c.own_tails-own.ensures.value
