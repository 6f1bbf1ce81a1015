use Rattle.std.proofs.Common.{sym, arith}
use Rattle.margin_files.proofs.CountSteps.{counted_to_more}
use Rattle.margin_files.proofs.numbers.count.Goals as goal

pub loop-byte-preserved : goal.loop-byte-preserved
loop-byte-preserved c =
    counted_to_more c.args.text.now c.loop-byte.byte-index c.loop-byte.count (omega arith) c.loop-byte.invariant c.in_ok-digit_value.field-0 c.with_digit-count.result (sym c.in_ok-digit_value.ensures.value) c.with_digit-count.ensures
