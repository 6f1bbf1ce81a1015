-- The laws of an account and the worked figures, for the contracts that carry them.
use Rattle.amounts.proofs.Tail.{tail_bound_holds}
use Rattle.amounts.proofs.Round.{round_off_near, round_up_near}
use Rattle.margin_rules.specs.Laws.{AccountLaws}
use Rattle.margin_rules.proofs.Order.{order_does_not_matter}
use Rattle.margin_rules.proofs.Joining.{joining_never_costs_more}
use Rattle.margin_rules.proofs.Closeness.{rounding_stays_close}
pub use Rattle.margin_rules.proofs.Figures.{worked_figures}

pub account_laws : AccountLaws
account_laws =
    record {
      order = order_does_not_matter;
      joining = joining_never_costs_more;
      rounding = rounding_stays_close;
      least = tail_bound_holds;
      rounded_off = round_off_near;
      rounded_up = round_up_near;
    }
