use Rattle.std.proofs.Common.{ℕ, ◌-◌, ◌*◌, ◌≤◌, ap, ◌∙◌, mul-le-mul, arith}
use Rattle.parameter_heading.proofs.readings.beyond.Goals as goal

pub returns : goal.returns
returns c =
    let a : c.saturating_sub.result ≤ 10000 = omega arith in
    let b : c.from-2.result ≤ 4294967295 = omega arith in
    record {
      value = ap (λ (x : ℕ). x * c.from-2.result) (c.saturating_sub.ensures ∙ ap (λ (x : ℕ). 10000 - x) c.from.ensures) ∙ ap (λ (x : ℕ). (10000 - c.args.level) * x) c.from-2.ensures;
      bound = mul-le-mul a b;
    }
