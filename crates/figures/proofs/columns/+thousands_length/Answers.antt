use Rattle.std.proofs.Common.{◌<◌, ◌≤◌, length, ap, ◌∙◌, inl, inr, ⊎_elim, arith}
use Rattle.figures.proofs.FigureLaws.{separated_alone}
use Rattle.figures.proofs.LengthLaws.{length_separated_more}
use Rattle.figures.proofs.columns.+thousands_length.Goals as goal

pub returns-then-commas-eq0 : goal.returns-then-commas-eq0
returns-then-commas-eq0 t c =
    let alone = separated_alone c.args.commas c.args.number (⊎_elim inl (λ w. inr w.1) c.then-commas-eq0.either) in
    record { value = c.decimal_length.ensures.value ∙ ap length alone; bound = omega (arith, c.decimal_length.ensures.bound) }

pub returns : goal.returns
returns t c =
    let some : 0 < c.args.commas = omega arith in
    let large : 1000 ≤ c.args.number = omega arith in
    record {
      value = omega (arith, c.thousands_length.ensures.value, length_separated_more c.args.commas c.args.number some large);
      bound = omega (arith, c.thousands_length.ensures.bound);
    }
