use Rattle.std.proofs.Common.{ℕ, Bool, not, List, get_or, sym, ◌∙◌}
use Rattle.ledger.specs.declared.terms.Kind.{Kind}
use Rattle.ledger.specs.declared.terms.Kind.TheVariants.{Stock}
use Rattle.ledger.specs.declared.terms.Place.{Place}
use Rattle.margin_rules.specs.Positions.{all_kinds, held_in, any_place}
use Rattle.margin_rules.specs.Answers.{is_covered}
use Rattle.margin.proofs.Lowest.{least_of_all}
use Rattle.margin.proofs.Uncovered.{uncovered_here, uncovered_more, uncovered_none}
use Rattle.margin.proofs.account.Account.first_uncovered.Goals as goal

abbrev held : List Place → Kind → ℕ → Bool
held xs k x = any_place (held_in k x) xs

pub returns-in-Some : goal.returns-in-Some
returns-in-Some g c =
    let m = g.S.ReturnSource.meaning c.args.source.now in
    let xs = c.args.self.now.places.now in
    let k = get_or all_kinds c.loop-kind.kind-index Stock in
    uncovered_here m (held xs) c.loop-kind.kind-index c.in-Some.stock c.loop-kind-test.true
    (sym c.in-Some.is ∙ c.lowest_uncovered.ensures ∙ least_of_all (λ x. not (is_covered m k x)) k xs c.args.self.now.sound) c.loop-kind.invariant

pub loop-kind-preserved : goal.loop-kind-preserved
loop-kind-preserved g c =
    let m = g.S.ReturnSource.meaning c.args.source.now in
    let xs = c.args.self.now.places.now in
    let k = get_or all_kinds c.loop-kind.kind-index Stock in
    uncovered_more m (held xs) c.loop-kind.kind-index c.loop-kind-test.true
    (sym c.in_default.is ∙ c.lowest_uncovered.ensures ∙ least_of_all (λ x. not (is_covered m k x)) k xs c.args.self.now.sound) c.loop-kind.invariant

pub returns : goal.returns
returns g c = uncovered_none (g.S.ReturnSource.meaning c.args.source.now) (held c.args.self.now.places.now) c.loop-kind.kind-index c.loop-kind-test.false c.loop-kind.invariant
