use Rattle.std.proofs.Common.{rules}
use Rattle.parameter_text.proofs.LineLaws.{chomped_cr, chomped_same}
use Rattle.parameter_text.proofs.cuts.chomp.Goals as goal

pub returns-in-13 : goal.returns-in-13
returns-in-13 c = chomped_cr c.args.line.now (search rules) (search rules)

pub returns-in_default : goal.returns-in_default
returns-in_default c = chomped_same c.args.line.now (λ h e. search rules)

pub returns-in_default-2 : goal.returns-in_default-2
returns-in_default-2 c = chomped_same c.args.line.now (λ h e. search rules)
