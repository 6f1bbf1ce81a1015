use Rattle.margin_rules.proofs.account_laws.Goals as goal
use Rattle.margin_rules.proofs.Laws.{account_laws, worked_figures}

pub returns : goal.returns
returns c = record { laws = account_laws; figures = worked_figures }
