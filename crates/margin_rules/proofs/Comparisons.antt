-- The comparisons of outcomes and of holdings put the lesser ahead in their orders. Assumes nothing.
use Rattle.std.proofs.Common.{arith}
use Rattle.std.proofs.lemmas.Int.{ints}
use Rattle.std.proofs.lemmas.Bool.Decides.{nat_tests}
use Rattle.first_few.specs.Order.{ComparesBy}
use Rattle.margin_rules.specs.Answers.{larger, worse}
use Rattle.margin_rules.specs.contracts.terms.OutcomeOrd.TheImpl as outcome_ord
use Rattle.margin_rules.specs.contracts.orders.HoldingOrd.TheImpl as holding_ord
use Rattle.margin_rules.specs.contracts.orders.OutcomeOrder.TheImpl.Laws as outcome_order
use Rattle.margin_rules.specs.contracts.orders.HoldingOrder.TheImpl.Laws as holding_order

-- the lesser outcome is the worse one, and of two that are not the same just one is
pub outcomes_compare : ComparesBy (outcome_ord.ghosts).cmp worse
outcomes_compare = record { less = λ a b. grind (arith, ints, nat_tests); strict = outcome_order.strict-law }

-- the lesser holding is the larger one, and of two that are not the same just one is
pub holdings_compare : ComparesBy (holding_ord.ghosts).cmp larger
holdings_compare = record { less = λ a b. grind (arith, ints, nat_tests); strict = holding_order.strict-law }
