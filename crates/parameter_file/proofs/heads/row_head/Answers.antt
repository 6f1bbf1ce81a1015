use Rattle.std.proofs.Common.{subst}
use Rattle.std.proofs.lemmas.Result.{MatchResult-weaker}
use Rattle.parameter_text.specs.Cuts.{cells}
use Rattle.parameter_file.specs.Table.{HeadOf, FaultyHead}
use Rattle.parameter_file.proofs.HeadLaws.{line_head}
use Rattle.parameter_file.proofs.heads.row_head.Goals as goal

pub returns-in_default : goal.returns-in_default
returns-in_default c =
    let text = c.args.text.now in
    let line = c.front_line.result.0.now in
    let same = c.front_line.ensures.line in
    MatchResult-weaker c.head_of-in_default.result c.head_of-in_default.ensures
    (λ h e. line_head text h.stock h.kind h.cells (subst (λ l. HeadOf l h.stock h.kind h.cells) same e))
    (λ q e. subst (λ l. FaultyHead (cells l) q) same e)
