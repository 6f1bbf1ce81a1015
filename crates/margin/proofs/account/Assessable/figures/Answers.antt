use Rattle.std.proofs.Common.{pos, ◌+ℤ◌, ◌∙◌, arith}
use Rattle.margin_rules.specs.Positions.{all_stocks, book}
use Rattle.margin_rules.specs.Charges.{all_rates}
use Rattle.margin.proofs.Steps.{figures_agree, figures_refused, figures_accepted, through, added_through, not_within, is_within}
use Rattle.margin.proofs.account.Assessable.figures.Goals as goal

pub returns-then-portfolio-flat_rate-gt-MOST_MARGIN : goal.returns-then-portfolio-flat_rate-gt-MOST_MARGIN
returns-then-portfolio-flat_rate-gt-MOST_MARGIN g c =
    let m = g.S.ReturnSource.meaning c.args.self.now.source.now in
    let p = c.portfolio_margin-portfolio in
    let f = c.flat_margin-flat_rate in
    let sum = added_through p.result f.result (omega (arith, p.ensures.bound)) (omega (arith, f.ensures.bound)) in
    let h = not_within (pos 900000000) (p.result +ℤ f.result) (rw sum at c.if-portfolio-flat_rate-gt-MOST_MARGIN.true) in
    figures_refused m c.args.self.now.account.settings.now all_stocks all_rates (book c.args.self.now.account.places.now) p.result f.result p.ensures.value f.ensures.value h

pub returns : goal.returns
returns g c =
    let m = g.S.ReturnSource.meaning c.args.self.now.source.now in
    let p = c.portfolio_margin-portfolio in
    let f = c.flat_margin-flat_rate in
    let k = c.corporate_margin-corporate_action in
    let k0 = c.mark-mark in
    let sum = added_through p.result f.result (omega (arith, p.ensures.bound)) (omega (arith, f.ensures.bound)) in
    let h = is_within (pos 900000000) (p.result +ℤ f.result) (rw sum at c.if-portfolio-flat_rate-gt-MOST_MARGIN.false) in
    figures_accepted m c.args.self.now.account.settings.now all_stocks all_rates (book c.args.self.now.account.places.now) p.result f.result p.ensures.value f.ensures.value c.figures_on.result h
    (c.figures_on.ensures
    ∙ figures_agree m c.args.self.now.account.settings.now all_stocks all_rates (book c.args.self.now.account.places.now) c.parameters.result _ _ _ _ c.portfolio_positions-positions.result c.parameters.ensures
    (through p.result p.type_inv ∙ p.ensures.value) (through f.result f.type_inv ∙ f.ensures.value) (through k.result k.type_inv ∙ k.ensures.value) (through k0.result k0.type_inv ∙ k0.ensures.value) c.portfolio_positions-positions.ensures)
