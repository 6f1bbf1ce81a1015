use Rattle.std.proofs.Common.{sym, ◌+◌, ◌*◌, ◌<◌, ◌≤◌, arith, rules}
use Rattle.margin_files.proofs.NumberSteps.{so_far_more, so_far_fits, so_far_bound}
use Rattle.margin_files.proofs.numbers.whole_size.Goals as goal

pub overflow_mul-size : goal.overflow_mul-size
overflow_mul-size c =
    let fits : c.loop-digit.size * 10 + 9 < 10000000000000000000 = so_far_fits c.args.digits.now c.loop-digit.digit-index c.loop-digit.size (omega arith) (omega arith) c.loop-digit.invariant in
    search rules

pub overflow_add-size : goal.overflow_add-size
overflow_add-size c =
    let fits : c.loop-digit.size * 10 + 9 < 10000000000000000000 = so_far_fits c.args.digits.now c.loop-digit.digit-index c.loop-digit.size (omega arith) (omega arith) c.loop-digit.invariant in
    let nine : c.in_ok-size.field-0 ≤ 9 = c.in_ok-size.ensures.small in
    search rules

pub loop-digit-preserved : goal.loop-digit-preserved
loop-digit-preserved c =
    so_far_more c.args.digits.now c.loop-digit.digit-index c.loop-digit.size (omega arith) (omega arith) c.loop-digit.invariant c.in_ok-size.field-0 c.in_ok-size.ensures.small (sym c.in_ok-size.ensures.value)

pub returns-clause-bound : goal.returns-clause-bound
returns-clause-bound c = so_far_bound c.args.digits.now c.loop-digit.digit-index c.loop-digit.size c.loop-digit.invariant
