use Rattle.std.proofs.Common.{◌≡◌, ℕ, Bool, drop}
use Rattle.ledger.specs.declared.terms.Kind.{Kind}
use Rattle.margin_rules.specs.Positions.{all_kinds, all_stocks, held_in, any_place}
use Rattle.margin_rules.specs.Answers.{first_uncovered}
use Rattle.margin.proofs.account.Account.first_uncovered.Given as goal

abbrev pub invariant-loop-kind : goal.invariant-loop-kind
invariant-loop-kind g l =
    let held : Kind → ℕ → Bool = λ k x. any_place (held_in k x) l.self.places.now in
    first_uncovered (g.S.ReturnSource.meaning l.source) all_stocks held (drop l.kind-index all_kinds) ≡ first_uncovered (g.S.ReturnSource.meaning l.source) all_stocks held all_kinds
