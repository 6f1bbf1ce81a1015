use Rattle.std.proofs.Common.{ℕ, ◌+◌, ◌^◌, ◌<◌, ◌≤◌, List, length, ap, ◌∙◌, inl, arith}
use Rattle.std.proofs.lemmas.Iterator.Consumers.{count_from_yields_List, YieldsList-from_first}
use Rattle.ledger.specs.declared.terms.Kind.TheVariants.{Stock}
use Rattle.margin_rules.specs.Portfolio.{in_portfolio}
use Rattle.margin_rules.specs.Requirement.{portfolio_positions}
use Rattle.margin.specs.declared.parts.Part.TheVariants.{Portfolio}
use Rattle.margin.specs.Visits.{stock_in}
use Rattle.margin.specs.Parts.{belongs}
use Rattle.margin.specs.Groups.{held_stocks}
use Rattle.margin.proofs.Counts.{visited_count}
use Rattle.margin.proofs.Visiting.{part_stocks, visits_few, count_filter}
use Rattle.margin.proofs.account.Assessable.portfolio_positions.Goals as goal

pub count-requires-clause-fits : goal.count-requires-clause-fits
count-requires-clause-fits g c =
    let it = c.visits_in.result in
    let m = g.S.ReturnSource.meaning it.by.source.now in
    let few = visits_few (belongs m it.by.settings.now it.by.part) (stock_in Stock) it.places.now in
    let k : 0 + length (part_stocks m it.by.settings.now it.by.part it.places.now) < 2 ^ 64 = omega (arith, few, ap length c.visits_in.ensures.places, c.args.self.now.account.few) in
    inl k

pub overflow_cast-result : goal.overflow_cast-result
overflow_cast-result g c =
    let it = c.visits_in.result in
    let m = g.S.ReturnSource.meaning it.by.source.now in
    let few = visits_few (belongs m it.by.settings.now it.by.part) (stock_in Stock) it.places.now in
    let b : c.count.result ≤ length (part_stocks m it.by.settings.now it.by.part it.places.now) = c.count.ensures.bound in
    omega (arith, few, ap length c.visits_in.ensures.places, c.args.self.now.account.few)

pub returns : goal.returns
unfolding portfolio_positions
returns g c =
    let e = c.visits_in.ensures in
    let m = g.S.ReturnSource.meaning c.args.self.now.source.now in
    let xs = c.args.self.now.account.places.now in
    let all : List ℕ = part_stocks m c.args.self.now.account.settings.now Portfolio xs in
    count_from_yields_List c.visits_in.result c.count.result c.count.ensures.ran
    (YieldsList-from_first (λ x. x) (λ s. part_stocks (g.S.ReturnSource.meaning s.by.source.now) s.by.settings.now s.by.part s.places.now) all (λ i. part_stocks (g.S.ReturnSource.meaning (e.source i)) (e.settings i) (e.part i) (e.places i)))
    ∙ count_filter (in_portfolio m) (held_stocks xs) ∙ visited_count Stock xs c.args.self.now.account.sound (in_portfolio m)
