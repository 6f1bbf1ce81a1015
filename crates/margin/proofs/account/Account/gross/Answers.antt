use Rattle.std.proofs.Common.{◌∙◌, arith}
use Rattle.std.proofs.lemmas.Int.{ints}
use Rattle.ledger.specs.declared.terms.Kind.TheVariants.{Stock}
use Rattle.margin_rules.specs.Positions.{all_kinds}
use Rattle.margin.proofs.Sums.{so_far_more, so_far_all}
use Rattle.margin.proofs.Sizes.{sizes, gross_is}
use Rattle.margin.proofs.account.Account.gross.Goals as goal

pub loop-kind-preserved : goal.loop-kind-preserved
loop-kind-preserved c =
    so_far_more 335544320000000000 (sizes c.args.self.now.places.now) all_kinds c.loop-kind.kind-index Stock _ c.gross_of_kind-gross.result _
    (omega (arith, ints, c.loop-kind.invariant.size, c.gross_of_kind-gross.ensures.bound)) c.loop-kind-test.true c.gross_of_kind-gross.ensures.value c.gross_of_kind-gross.ensures.bound c.loop-kind.invariant

pub returns-clause-value : goal.returns-clause-value
returns-clause-value c = so_far_all 335544320000000000 (sizes c.args.self.now.places.now) all_kinds c.loop-kind.kind-index _ c.loop-kind-test.false c.loop-kind.invariant ∙ gross_is c.args.self.now.places.now
