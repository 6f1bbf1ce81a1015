use Rattle.std.proofs.Common.{rules}
use Rattle.parameter_text.specs.Cuts.{lines}
use Rattle.margin_files.proofs.JournalSteps.{lines_fit, counted_none}
use Rattle.margin_files.proofs.journals.check_journal.Goals as goal

pub loop-before-init : goal.loop-before-init
loop-before-init c =
    let few = lines_fit c.args.text.now in
    let none = counted_none (lines c.args.text.now) in
    search rules
