use Rattle.std.proofs.lemmas.Result.{err_from_is_err_and}
use Rattle.parameter_rows.proofs.ReturnLaws.{return_bits}
use Rattle.parameter_rows.proofs.judged.return_value.Goals as goal

pub returns-in_err-v : goal.returns-in_err-v
returns-in_err-v c =
    let p = err_from_is_err_and c.from_residual.result c.from_residual.ensures.1 in
    rw (p.1, p.2) c.in_err-v.ensures.value

pub overflow_cast-result : goal.overflow_cast-result
overflow_cast-result c = (return_bits c.args.cell.now c.in_ok-v.v c.in_ok-v.ensures.value).0

pub returns : goal.returns
returns c = (return_bits c.args.cell.now c.in_ok-v.v c.in_ok-v.ensures.value).1
