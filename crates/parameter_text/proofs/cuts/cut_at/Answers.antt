use Rattle.std.proofs.Common.{eqb, sym, ◌∙◌, rules, tests}
use Rattle.std.proofs.lemmas.Iterator.{YieldsList-from_slice}
use Rattle.std.proofs.lemmas.Iterator.Search.{position_from_yields_List}
use Rattle.parameter_text.proofs.CutLaws.{split_at, split_whole, found_at, found_nowhere}
use Rattle.parameter_text.proofs.cuts.cut_at.Goals as goal

pub returns-in_err-n : goal.returns-in_err-n
returns-in_err-n c =
    let none = split_whole c.args.b c.args.bytes.now (found_nowhere c.args.b c.args.bytes.now (sym c.in_err-n.was ∙ position_from_yields_List (λ x. eqb x c.args.b) _ _ c.position.result c.position.ensures.ran (YieldsList-from_slice c.args.bytes.now cc) (λ x b q k. search (rules, tests)))) in
    search rules

pub returns : goal.returns
returns c =
    let found = found_at c.args.b c.args.bytes.now c.in_ok-n.n (sym c.in_ok-n.was ∙ position_from_yields_List (λ x. eqb x c.args.b) _ _ c.position.result c.position.ensures.ran (YieldsList-from_slice c.args.bytes.now cc) (λ x b q k. search (rules, tests))) in
    split_at c.args.b c.args.bytes.now c.in_ok-n.n found.0 found.1
