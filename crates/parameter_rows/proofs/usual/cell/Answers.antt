use Rattle.std.proofs.Common.{ℕ, ◌+◌, eqb, List, get_or, take, sym, refl, ◌∙◌, subst, arith, w32, SFits, rules}
use mir.Val.{bool_byte}
use Rattle.std.proofs.lemmas.List.{take_rest}
use Rattle.std.proofs.lemmas.Int.{to_z-of_z}
use Rattle.parameter_rows.specs.Returns.{SpellsReturn}
use Rattle.parameter_rows.specs.Reading.{Sized}
use Rattle.parameter_rows.proofs.UsualCells.{spells_signed}
use Rattle.parameter_rows.proofs.usual.cell.Goals as goal

pub returns-clause-found : goal.returns-clause-found
returns-clause-found c =
    let xs = c.args.text.now in
    let n = c.in_ok-n.n in
    let k = c.in_ok-n.length in
    let minus = eqb (get_or xs 0 0) 45 in
    let size = subst (λ (l : List ℕ). Sized (take k l) n) (take_rest xs (bool_byte minus)) c.in_ok-n.ensures.found in
    let s = spells_signed xs k n minus refl (omega arith) c.if-n-gt-LARGEST_RETURN.false size in
    let v = c.with_sign.result in
    let fits : SFits w32 v = search rules in
    subst (SpellsReturn (take (bool_byte minus + k) xs)) (sym (to_z-of_z w32 v fits ∙ c.with_sign.ensures)) s
