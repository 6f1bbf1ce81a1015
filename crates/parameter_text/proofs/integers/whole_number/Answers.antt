use Rattle.std.proofs.Common.{◌≡◌, true, leb, length, sym, rules}
use Rattle.std.proofs.lemmas.Bool.{and_parts, leb-true}
use Rattle.parameter_text.specs.Integers.{whole_formed}
use Rattle.parameter_text.proofs.DigitLaws.{digits_fact}
use Rattle.parameter_text.proofs.DigitSteps.{nine_digits}
use Rattle.parameter_text.proofs.IntegerLaws.{integers_pass}
use Rattle.parameter_text.proofs.integers.whole_number.Goals as goal

pub overflow_cast-result : goal.overflow_cast-result
overflow_cast-result c =
    let bs = c.args.cell.now in
    let yes : whole_formed bs ≡ true = sym c.if-is_whole.ensures in
    let q = and_parts (leb 1 (length bs)) _ yes in
    let q2 = and_parts (leb (length bs) 9) _ q.1 in
    let small = nine_digits bs (digits_fact bs q2.1) (leb-true (length bs) 9 q2.0) in
    search rules

pub returns-then-is_whole-clause-law : goal.returns-then-is_whole-clause-law
returns-then-is_whole-clause-law c = integers_pass

pub returns-else-is_whole-clause-law : goal.returns-else-is_whole-clause-law
returns-else-is_whole-clause-law c = integers_pass
