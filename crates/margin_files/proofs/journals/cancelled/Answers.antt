use Rattle.std.proofs.Common.{◌≡◌, w64, refl, sym, ap, ◌∙◌, Some, arith, rules}
use mir.Val.{SFits}
use Rattle.std.proofs.lemmas.Int.{to_z-of_z}
use Rattle.margin_files.specs.Numbers.{in_u32}
use Rattle.margin_files.specs.Journals.{cancelled_of, cancelled_in}
use Rattle.margin_files.proofs.WholeSteps.{wholes_more, wholes_none, wholes_ended}
use Rattle.margin_files.proofs.journals.cancelled.Goals as goal

pub returns-in_err-number : goal.returns-in_err-number
unfolding cancelled_in
returns-in_err-number c = c.from_residual.ensures ∙ sym (wholes_none cancelled_of refl _ c.in_err-number.ensures)

pub returns : goal.returns
unfolding cancelled_in
returns c =
    let fits : SFits w64 c.in_ok-number.number = search rules in
    let number : c.in_u32.result ≡ in_u32 c.in_ok-number.number = grind (arith, to_z-of_z, c.in_u32.ensures) in
    c.then_some.ensures ∙ sym (wholes_more cancelled_of _ _ _ c.in_ok-number.ensures ∙ wholes_ended _ (ap Some (sym number)) (λ z zs. refl) _ _ _ _ c.is_none.ensures c.next.ensures.steps)
