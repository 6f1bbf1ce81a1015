use Rattle.std.proofs.Common.{arith}
use Rattle.first_few.proofs.Shifts.{moved_none, moved_more}
use Rattle.first_few.proofs.inserting.shift.Goals as goal

pub loop-j-init : goal.loop-j-init
loop-j-init g c = (moved_none c.args.places.now c.args.to (omega arith), omega arith, omega arith)

pub loop-j-preserved : goal.loop-j-preserved
loop-j-preserved g c = (moved_more c.args.places.now c.loop-j.places _ _ _ (omega arith) (omega arith) (omega arith) c.loop-j.invariant.0 c.index-places-j.is, omega arith, omega arith)
