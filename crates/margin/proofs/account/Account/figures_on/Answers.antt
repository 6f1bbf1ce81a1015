use Rattle.std.proofs.Common.{◌+ℤ◌, ap, ◌∙◌, arith}
use Rattle.amounts.specs.Rounding.{round_up_int}
use Rattle.amounts.specs.Charges.{long, short}
use Rattle.margin_rules.specs.Requirement.{less}
use Rattle.margin.specs.Requirement.{holiday_on}
use Rattle.margin.proofs.Steps.{through, through_small, figures_are}
use Rattle.margin.proofs.account.Account.figures_on.Goals as goal

pub returns : goal.returns
returns c =
    let p = c.args.p in
    let v = c.args.margins in
    let pf = through_small v.portfolio (omega (arith, c.requires.portfolio)) in
    let ff = through_small v.flat_rate (omega (arith, c.requires.flat_rate)) in
    let cf = through_small v.corporate_action (omega (arith, c.requires.corporate_action)) in
    let mf = through_small c.args.mark (omega (arith, c.requires.mark)) in
    let ch = c.charged-charged.result in
    let ho = c.holiday_margin-holiday.result in
    let gi = c.given_inside-given.result in
    let ag = c.aggregate-aggregate.result in
    let ro = c.round_up-rounded.result in
    let fa = c.long_of-favourable.result in
    let re = c.short_of-requirement.result in
    let ne = c.less-net.result in
    let cr = c.credit.result in
    let cd = c.less-credited.result in
    let gb = c.given_beside.result in
    let to = c.total-total.result in
    let tch = through ch c.charged-charged.type_inv in
    let tho = through ho c.holiday_margin-holiday.type_inv in
    let tgi = through gi c.given_inside-given.type_inv in
    let tag = through ag c.aggregate-aggregate.type_inv in
    let tro = through ro c.round_up-rounded.type_inv in
    let tfa = through fa c.long_of-favourable.type_inv in
    let tre = through re c.short_of-requirement.type_inv in
    let tne = through ne c.less-net.type_inv in
    let tcr = through cr c.credit.type_inv in
    let tcd = through cd c.less-credited.type_inv in
    let tgb = through gb c.given_beside.type_inv in
    let tto = through to c.total-total.type_inv in
    ◌∙◌
    (λ i. record { portfolio = pf i; flat_rate = ff i; corporate_action = cf i; holiday = tho i; aggregate = tag i; rounded = tro i; favourable = tfa i; requirement = tre i; net = tne i; credited = tcd i; total = tto i; positions = c.args.positions })
    (figures_are p c.args.self.now.settings.now v.portfolio v.flat_rate v.corporate_action c.args.mark c.args.positions ch ho gi ag ro fa re ne cr cd gb to
    c.charged-charged.ensures.value
    (c.holiday_margin-holiday.ensures.value ∙ ap (holiday_on p) tch)
    c.given_inside-given.ensures.value
    (c.aggregate-aggregate.ensures.value ∙ (λ i. tch i +ℤ cf i +ℤ tho i +ℤ tgi i))
    (c.round_up-rounded.ensures.value ∙ ap (round_up_int p.step) tag)
    (c.long_of-favourable.ensures.value ∙ ap long mf)
    (c.short_of-requirement.ensures.value ∙ ap short mf)
    (c.less-net.ensures.value ∙ (λ i. less (tro i) (tfa i)))
    c.credit.ensures.value
    (c.less-credited.ensures.value ∙ (λ i. less (tne i) (tcr i)))
    c.given_beside.ensures.value
    (c.total-total.ensures ∙ (λ i. tcd i +ℤ tre i +ℤ tgb i)))
