use Rattle.parameter_text.proofs.IntegerLaws.{stocks_pass}
use Rattle.parameter_text.proofs.integers.stock_number.Goals as goal

pub returns-in-48-clause-law : goal.returns-in-48-clause-law
returns-in-48-clause-law c = stocks_pass

pub returns-in_default-clause-law : goal.returns-in_default-clause-law
returns-in_default-clause-law c = stocks_pass
