use Rattle.std.proofs.Common.{ℕ, List, length, sym, ap, ◌∙◌, arith}
use Rattle.std.proofs.lemmas.Result.{err_from_is_err_and}
use Rattle.parameter_text.specs.Cuts.{lines}
use Rattle.parameter_text.specs.Left.{lines_left}
use Rattle.parameter_heading.specs.Headings.{heading}
use Rattle.parameter_heading.proofs.HeadingLaws.{headings_pass, heading_sound}
use Rattle.parameter_heading.proofs.laid_down.Goals as goal

pub returns-in_err-heading : goal.returns-in_err-heading
returns-in_err-heading c =
    let p = err_from_is_err_and c.from_residual.result c.from_residual.ensures.1 in
    let said = sym c.in_err-heading.ensures ∙ ap (λ (xs : List ℕ). heading (lines xs)) c.new-lines.ensures in
    rw (p.1, p.2) (record { heading = said; rest = tt; law = headings_pass; sound = tt })

pub returns : goal.returns
returns c =
    let said = c.in_ok-heading.ensures in
    record {
      heading = sym said.0 ∙ ap (λ (xs : List ℕ). heading (lines xs)) c.new-lines.ensures;
      rest = omega (arith, said.1, ap length c.new-lines.ensures);
      law = headings_pass;
      sound = heading_sound (lines_left c.new-lines.result) (lines_left c.first_lines.new.lines) c.in_ok-heading.heading said.0;
    }
