use Rattle.std.proofs.Common.{drop, ap, ◌∙◌}
use Rattle.std.proofs.lemmas.Iterator.Consumers.{YieldsList-from_first, nth_from_yields_List}
use Rattle.parameter_text.specs.Cuts.{lines}
use Rattle.parameter_text.specs.Left.{lines_left}
use Rattle.margin_files.specs.Files.{first_of}
use Rattle.margin_files.proofs.LineSteps.{first_dropped}
use Rattle.margin_files.proofs.settings_file.line_at.Goals as goal

pub returns : goal.returns
returns c =
    nth_from_yields_List c.nth.result c.nth.new.self c.saturating_sub.result c.nth.ensures.ran (YieldsList-from_first (λ x. x.now) lines_left (lines c.args.text.now) (ap lines c.new.ensures))
    ∙ first_dropped _ (lines c.args.text.now) ∙ ap (λ n. first_of (drop n (lines c.args.text.now))) c.saturating_sub.ensures
