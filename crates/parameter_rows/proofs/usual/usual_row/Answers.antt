use Rattle.std.proofs.Common.{◌≡◌, ℕ, ◌+◌, List, ◌++◌, ◌∷◌, [], length, drop, ℤ, Ok, sym, ap, ◌∙◌, subst, arith, w32, SFits, to_z, of_z, rules}
use Rattle.std.proofs.lemmas.List.{take_rest, length-drop}
use Rattle.std.proofs.lemmas.Int.{to_z-of_z}
use Rattle.parameter_text.specs.Cuts.{cells, line_of, after_line}
use Rattle.parameter_rows.specs.Returns.{returns_cells}
use Rattle.parameter_rows.specs.Reading.{Ends}
use Rattle.parameter_rows.proofs.ReturnLaws.{returns_pass}
use Rattle.parameter_rows.proofs.UsualRows.{read_all, from_end, set_last}
use Rattle.parameter_rows.proofs.usual.usual_row.Goals as goal

pub returns-in_err-last-clause-law : goal.returns-in_err-last-clause-law
returns-in_err-last-clause-law c = returns_pass

pub returns-in_err-rest-clause-law : goal.returns-in_err-rest-clause-law
returns-in_err-rest-clause-law c = returns_pass

pub returns-in_err-v-clause-law : goal.returns-in_err-v-clause-law
returns-in_err-v-clause-law c = returns_pass

pub returns-in_err-next-clause-law : goal.returns-in_err-next-clause-law
returns-in_err-next-clause-law c = returns_pass

module _ (c : goal.In_ok-next) where
  long : (length c.followed_cells.new.row ≡ c.in_ok-last.last) × (c.in_ok-last.last + 1 ≡ length c.args.row.now)
  long = (search rules, omega (arith, c.in_ok-last.ensures))

  all : (returns_cells (length c.args.row.now) (cells (line_of c.args.text.now)) ≡ Ok (c.followed_cells.new.row ++ c.in_ok-v.v ∷ [])) × (c.in_ok-next.next.now ≡ after_line c.args.text.now)
  all =
      let rest = c.in_ok-rest.rest.now in
      let n = c.in_ok-v.length in
      let ends = subst (λ (l : List ℕ). Ends l c.in_ok-next.next.now) (take_rest rest n) c.in_ok-next.ensures in
      read_all c.args.text.now rest c.in_ok-next.next.now n (length c.args.row.now) c.followed_cells.new.row c.in_ok-v.v (omega (arith, long)) c.in_ok-v.ensures.found c.in_ok-rest.ensures ends

pub returns-clause-passes : goal.returns-clause-passes
returns-clause-passes c =
    let row = c.args.row.now in
    let v = c.in_ok-v.v in
    let back = drop c.in_ok-last.last row in
    let f : SFits w32 v = search rules in
    let one : length back ≡ 1 = omega (arith, length-drop c.in_ok-last.last row, (long c).1) in
    let same = set_last c.followed_cells.new.row back (to_z w32 (of_z w32 v)) c.in_ok-last.last (long c).0 one in
    (all c).0 ∙ ap (λ (z : ℤ). Ok (c.followed_cells.new.row ++ z ∷ [])) (sym (to_z-of_z w32 v f)) ∙ ap Ok (sym same)

pub returns-clause-next : goal.returns-clause-next
returns-clause-next c = let e = from_end c.args.text.now c.in_ok-next.next.now (all c).1 in (e.1, omega arith)

pub returns-clause-law : goal.returns-clause-law
returns-clause-law c = returns_pass
