use Rattle.std.proofs.Common.{◌^◌, ◌<◌, sym, arith, lit<, lit≤}
use Rattle.std.proofs.lemmas.Fmt.{length-decimal-le}
use Rattle.figures.proofs.LengthLaws.{length_decimal_digit, length_decimal_more}
use Rattle.figures.proofs.columns.+decimal_length.Goals as goal

pub returns-then-number-lt10 : goal.returns-then-number-lt10
returns-then-number-lt10 t c = record { value = sym (length_decimal_digit c.args.number c.if-number-lt10.true); bound = lit≤ tt }

pub returns : goal.returns
returns t c =
    let small : c.args.number < 2 ^ 64 = omega arith in
    let less : c.args.number < 10 ^ 20 = omega arith in
    let more = length_decimal_more c.args.number c.if-number-lt10.false small in
    record {
      value = omega (arith, c.decimal_length.ensures.value, more);
      bound = omega (arith, c.decimal_length.ensures.value, more, length-decimal-le 20 c.args.number (lit< tt) less small);
    }
