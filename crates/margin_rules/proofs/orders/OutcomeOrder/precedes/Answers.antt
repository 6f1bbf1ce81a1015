use Rattle.margin_rules.proofs.Comparisons.{outcomes_compare}
use Rattle.margin_rules.proofs.orders.OutcomeOrder.precedes.Goals as goal

pub returns-clause-comparison : goal.returns-clause-comparison
returns-clause-comparison c = outcomes_compare
