use Rattle.std.proofs.Common.{ℕ, ◌+◌, ◌-◌, List, length, take, drop, set, ℤ, sym, subst, w32, SFits, rules}
use Rattle.std.proofs.lemmas.List.{take_rest}
use Rattle.std.proofs.lemmas.Int.{to_z-of_z}
use Rattle.parameter_rows.specs.Reading.{Followed}
use Rattle.parameter_rows.proofs.UsualRows.{followed_more}
use Rattle.parameter_rows.proofs.usual.followed_cells.Goals as goal

pub loop-value-preserved : goal.loop-value-preserved
loop-value-preserved c =
    let xs = c.args.text.now in
    let l = c.loop-value in
    let rest = l.rest.now in
    let v = c.in_ok-v.v in
    let n = c.in_ok-v.length in
    let said = c.in_ok-v.ensures in
    let f : SFits w32 v = search rules in
    let s = followed_more xs rest n l.row l.value-index v (search rules) said.found said.within c.if-rest-length-ne44.false l.invariant in
    let t = subst (λ (r : List ℕ). Followed xs r (take (l.value-index + 1) (set l.row l.value-index v))) (sym (take_rest rest (n + 1))) s in
    subst (λ (z : ℤ). Followed xs (take (length rest - (n + 1)) (drop (n + 1) rest)) (take (l.value-index + 1) (set l.row l.value-index z))) (sym (to_z-of_z w32 v f)) t
