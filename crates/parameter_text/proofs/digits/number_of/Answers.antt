use Rattle.std.proofs.Common.{rules}
use Rattle.parameter_text.proofs.DigitSteps.{so_far_all, digits_bound}
use Rattle.parameter_text.proofs.digits.number_of.Goals as goal

pub returns-clause-digits : goal.returns-clause-digits
returns-clause-digits c = λ h. rw (so_far_all _ _ _ c.loop-b.invariant (search rules)) (digits_bound c.args.bytes.now h c.requires)
