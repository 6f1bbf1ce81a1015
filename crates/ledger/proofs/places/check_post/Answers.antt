-- The laws of every run of calls.
use Rattle.ledger.proofs.Order.{order_does_not_count}
use Rattle.ledger.proofs.Kept.{cancelled_stays_cancelled, each_number_one_place}
use Rattle.ledger.proofs.Told.{live_is_posted_and_not_cancelled}
use Rattle.ledger.proofs.places.check_post.Goals as goal

pub returns-clause-order : goal.returns-clause-order
returns-clause-order c = order_does_not_count

pub returns-clause-cancelled : goal.returns-clause-cancelled
returns-clause-cancelled c = cancelled_stays_cancelled

pub returns-clause-one_place : goal.returns-clause-one_place
returns-clause-one_place c = each_number_one_place

pub returns-clause-live : goal.returns-clause-live
returns-clause-live c = live_is_posted_and_not_cancelled
