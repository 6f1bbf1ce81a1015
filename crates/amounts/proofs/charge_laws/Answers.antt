use Rattle.amounts.proofs.Charge.{sided_adds, greater_adds, due_adds}
use Rattle.amounts.proofs.charge_laws.Goals as goal

pub returns : goal.returns
returns c = record { sided_adds = sided_adds; greater_side_adds = greater_adds; due_adds = due_adds }
