use Rattle.std.proofs.Common.{◌≡◌, ℕ, ◌+◌, ◌≤◌, List, length, drop, Ok, Err, vec_items, sym, ap, ◌∙◌, subst, arith}
use Rattle.std.proofs.lemmas.List.{take_rest, length-drop}
use Rattle.std.proofs.lemmas.Result.{err_from_is_err_and}
use Rattle.parameter_text.specs.Cuts.{line_of}
use Rattle.file_rules.specs.Rows.{Row}
use Rattle.file_rules.specs.Judged.{next_row}
use Rattle.parameter_file.specs.Reading.{RowTaken, TakenRow}
use Rattle.parameter_file.proofs.ReadingLaws.{so_far_none, row_fault, further, so_far_more, row_passed, row_failed}
use Rattle.parameter_file.proofs.file.Memory.take_rows.Goals as goal
use Rattle.parameter_file.proofs.file.Memory.take_rows.Goals.{In_ok-at}

pub loop-at-init : goal.loop-at-init
loop-at-init c =
    let e = c.clear.ensures in
    (so_far_none c.args.rule.now.parameters c.args.text.now (vec_items c.clear.new.self.kept) (vec_items c.clear.new.self.table) e.kept e.blank, e.places, e.length)

-- the row that was taken
took : (c : In_ok-at) → (r : Row) × RowTaken c.args.rule.now.parameters (drop c.loop-at.at c.args.text.now) (vec_items c.loop-at.self.kept) (vec_items c.take_row.new.self.kept) (vec_items c.take_row.new.self.table) c.loop-at.invariant.0.0 c.in_ok-at.field-0 r
took c =
    let s = c.loop-at.invariant.0 in
    let passed = row_passed c.take_row.result c.loop-at.line c.in_ok-at.field-0 c.in_ok-at.ensures in
    let taken = subst (TakenRow c.args.rule.now.parameters _ (vec_items c.loop-at.self.kept) (vec_items c.take_row.new.self.kept) (vec_items c.take_row.new.self.table) s.0) passed (c.take_row.ensures.row s.0 s.1.number s.1.holds) in
    subst (λ (l : List ℕ). TakenRow c.args.rule.now.parameters l (vec_items c.loop-at.self.kept) (vec_items c.take_row.new.self.kept) (vec_items c.take_row.new.self.table) s.0 (Ok c.in_ok-at.field-0)) (take_rest c.args.text.now c.loop-at.at) taken

step : (c : In_ok-at) → (1 ≤ c.in_ok-at.field-0) × (c.loop-at.at + c.in_ok-at.field-0 ≤ length c.args.text.now)
step c =
    let t = took c in
    (further c.args.rule.now.parameters c.args.text.now c.loop-at.at c.loop-at.line _ _ c.loop-at-test.true c.loop-at.invariant.0 c.in_ok-at.field-0 _ _ t.0 t.1, omega (arith, t.1.within, length-drop c.loop-at.at c.args.text.now, c.loop-at-test.true))

pub overflow_add-at : goal.overflow_add-at
overflow_add-at c = let s = step (goal.at.overflow_add-at c).In_ok-at in omega (arith, s.1, c.requires, c.args.self.now.few)

pub overflow_add-line : goal.overflow_add-line
overflow_add-line c = let s = c.loop-at.invariant.0.1 in omega (arith, s.number, s.few, s.within, c.requires, c.args.self.now.few)

pub loop-at-smaller : goal.loop-at-smaller
loop-at-smaller c = let s = step (goal.at.loop-at-smaller c).In_ok-at in omega arith

pub loop-at-preserved : goal.loop-at-preserved
loop-at-preserved c =
    let t = took (goal.at.loop-at-preserved c).In_ok-at in (
      so_far_more c.args.rule.now.parameters c.args.text.now c.loop-at.at c.loop-at.line (vec_items c.loop-at.self.kept) (vec_items c.loop-at.self.table) c.loop-at-test.true c.loop-at.invariant.0 c.in_ok-at.field-0 (vec_items c.take_row.new.self.kept) (vec_items c.take_row.new.self.table) t.0 t.1,
      c.take_row.ensures.places,
      c.take_row.ensures.length ∙ c.loop-at.invariant.2,
    )

pub returns-in_err-at-clause-rows : goal.returns-in_err-at-clause-rows
returns-in_err-at-clause-rows c =
    let p = err_from_is_err_and c.from_residual.result c.from_residual.ensures.1 in
    let s = c.loop-at.invariant.0 in
    let f = row_failed c.take_row.result c.loop-at.line c.in_err-at.field-0.0 c.in_err-at.ensures in
    let failed = subst (TakenRow c.args.rule.now.parameters _ (vec_items c.loop-at.self.kept) (vec_items c.take_row.new.self.kept) (vec_items c.take_row.new.self.table) s.0) f.1 (c.take_row.ensures.row s.0 s.1.number s.1.holds) in
    let e : next_row c.args.rule.now.parameters s.0 (line_of (drop c.loop-at.at c.args.text.now)) ≡ Err f.0 = ap (λ (l : List ℕ). next_row c.args.rule.now.parameters s.0 (line_of l)) (sym (take_rest c.args.text.now c.loop-at.at)) ∙ failed in
    rw (p.1, p.2) (row_fault c.args.rule.now.parameters c.args.text.now c.loop-at.at c.loop-at.line (vec_items c.loop-at.self.kept) (vec_items c.loop-at.self.table) c.loop-at-test.true s f.0 e ∙ sym f.2)
