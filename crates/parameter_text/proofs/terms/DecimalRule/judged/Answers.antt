use Rattle.parameter_text.proofs.DecimalLaws.{decimals_pass}
use Rattle.parameter_text.proofs.terms.DecimalRule.judged.Goals as goal

pub returns-then-not-are_formed-clause-law : goal.returns-then-not-are_formed-clause-law
returns-then-not-are_formed-clause-law c = decimals_pass

pub returns-clause-law : goal.returns-clause-law
returns-clause-law c = decimals_pass
