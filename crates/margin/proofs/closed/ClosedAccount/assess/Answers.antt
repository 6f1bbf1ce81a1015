-- The laws of an account and the figures worked out by hand.
use Rattle.margin_rules.proofs.Laws.{account_laws, worked_figures}
use Rattle.margin.proofs.closed.ClosedAccount.assess.Goals as goal

pub returns-clause-laws : goal.returns-clause-laws
returns-clause-laws g c = account_laws

pub returns-clause-figures : goal.returns-clause-figures
returns-clause-figures g c = worked_figures
