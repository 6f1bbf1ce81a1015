use Rattle.margin_rules.proofs.Comparisons.{holdings_compare}
use Rattle.margin_rules.proofs.orders.HoldingOrder.precedes.Goals as goal

pub returns-clause-comparison : goal.returns-clause-comparison
returns-clause-comparison c = holdings_compare
