use Rattle.std.proofs.Common.{◌*◌, pos, ◌*ℤ◌, ap, ◌∙◌, arith, w64, FitsSigned}
use Rattle.std.proofs.lemmas.Int.{ints, to_z-of_z}
use Rattle.margin_rules.specs.Positions.{all_stocks}
use Rattle.margin_rules.specs.Portfolio.{both_tails}
use Rattle.margin.specs.Groups.{stock_market}
use Rattle.margin.proofs.RoundSizes.{narrow}
use Rattle.margin.proofs.Losses.{margin_is, rounded}
use Rattle.margin.proofs.account.Assessable.portfolio_margin.Goals as goal

pub overflow_cast-result : goal.overflow_cast-result
overflow_cast-result g c =
    let m = g.S.ReturnSource.meaning c.args.self.now.source.now in
    let r = rounded (both_tails m) c.both_tails.result c.loss-loss.result c.floor-floor.result c.max.result c.round_off.result c.both_tails.ensures.value c.both_tails.ensures.some c.both_tails.ensures.few c.loss-loss.ensures.bound c.floor-floor.ensures.bound c.max.ensures.value c.round_off.ensures in
    omega (arith, ints, r.1)

pub returns-clause-value : goal.returns-clause-value
returns-clause-value g c =
    let m = g.S.ReturnSource.meaning c.args.self.now.source.now in
    let r = rounded (both_tails m) c.both_tails.result c.loss-loss.result c.floor-floor.result c.max.result c.round_off.result c.both_tails.ensures.value c.both_tails.ensures.some c.both_tails.ensures.few c.loss-loss.ensures.bound c.floor-floor.ensures.bound c.max.ensures.value c.round_off.ensures in
    let side : FitsSigned w64 c.side.result = omega (arith, ints, c.side.ensures.bound) in
    narrow c.round_off.result (omega (arith, r.1)) ∙ r.0
    ∙ margin_is m c.args.self.now.account.settings.now all_stocks (stock_market c.args.self.now.account.places.now) c.tails.result.historical c.tails.result.stress c.side.result c.tails.ensures.historical c.tails.ensures.stress c.side.ensures.value c.loss-loss.result c.floor-floor.result c.loss-loss.ensures.value
    (c.floor-floor.ensures.value ∙ ap (λ z. pos (c.args.self.now.account.settings.now.floor_rate * both_tails m) *ℤ z) (to_z-of_z w64 c.side.result side))

pub returns-clause-bound : goal.returns-clause-bound
returns-clause-bound g c =
    let m = g.S.ReturnSource.meaning c.args.self.now.source.now in
    let r = rounded (both_tails m) c.both_tails.result c.loss-loss.result c.floor-floor.result c.max.result c.round_off.result c.both_tails.ensures.value c.both_tails.ensures.some c.both_tails.ensures.few c.loss-loss.ensures.bound c.floor-floor.ensures.bound c.max.ensures.value c.round_off.ensures in
    rw (narrow c.round_off.result (omega (arith, r.1))) r.1
