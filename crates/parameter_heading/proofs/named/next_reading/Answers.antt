use Rattle.std.proofs.Common.{ap, ◌∙◌}
use Rattle.std.proofs.lemmas.Result.{err_from_is_err_and}
use Rattle.parameter_text.specs.Left.{lines_left}
use Rattle.parameter_heading.specs.Lines.{at_line}
use Rattle.parameter_heading.proofs.LineSteps.{faulty, taken}
use Rattle.parameter_heading.proofs.named.next_reading.Goals as goal

pub returns-in_err-value : goal.returns-in_err-value
returns-in_err-value g c =
    let p = err_from_is_err_and c.from_residual.result c.from_residual.ensures.1 in
    rw (p.1, p.2) (faulty c.args.number c.args.name.now (g.R.Reading.judged c.args.reading.now) (lines_left c.args.lines.now) _ c.in_err-value.ensures)

pub returns : goal.returns
returns g c =
    let k = c.args.number in
    taken k c.args.name.now (g.R.Reading.judged c.args.reading.now) c.args.lines.now c.next_value.new.lines c.in_ok-value.value.now c.at_line.result c.in_ok-value.ensures (c.at_line.ensures ∙ ap (at_line k) c.read.ensures)
