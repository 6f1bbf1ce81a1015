use Rattle.std.proofs.Common.{◌≡◌, ℕ, List, ◌∷◌, ◌++◌, Err, Result, sym, ap, ◌∙◌, arith}
use Rattle.std.proofs.lemmas.Option.{MatchOption-at_some}
use Rattle.std.proofs.lemmas.Result.{err_from_is_err_and}
use Rattle.parameter_text.specs.declared.terms.Question.{Question}
use Rattle.parameter_text.specs.Questions.{both, and_then}
use Rattle.parameter_text.specs.Cuts.{cells}
use Rattle.parameter_text.specs.Left.{cells_left}
use Rattle.parameter_text.specs.Integers.{integer, stock_cell}
use Rattle.file_rules.specs.declared.terms.FieldType.{FieldType}
use Rattle.file_rules.specs.Judged.{field_of, row_head, row_of, row_cells}
use Rattle.parameter_file.proofs.HeadLaws.{both_as, both_passed, field_number, cut_parts, cut_size, headed}
use Rattle.parameter_file.proofs.heads.head_of.Goals as goal
use Rattle.parameter_file.proofs.heads.head_of.Goals.{After-both, In-Some}

-- the two cells that were read
one : (c : After-both) → cells c.args.piece.now ≡ c.in_ok-first.first.now ∷ cells_left c.next.new.self
one c = sym c.new-left.ensures ∙ MatchOption-at_some _ _ c.in_ok-first.first c.in_ok-first.ensures.ok_part c.next.ensures.steps

two : (c : After-both) → cells_left c.next.new.self ≡ c.in_ok-second.second.now ∷ cells_left c.next-2.new.self
two c = MatchOption-at_some _ _ c.in_ok-second.second c.in_ok-second.ensures.ok_part c.next-2.ensures.steps

-- the piece, by its cells
cut : (c : In-Some) → c.args.piece.now ≡ c.in_ok-first.first.now ++ 44 ∷ (c.in_ok-second.second.now ++ 44 ∷ c.in-Some.rest.now)
cut c =
    let a = (goal.at.In-Some c).After-both in
    cut_parts c.args.piece.now c.in_ok-first.first.now c.in_ok-second.second.now c.in-Some.rest.now _ _ (one a) (two a) c.in-Some.ensures

pub overflow_sub-cells : goal.overflow_sub-cells
overflow_sub-cells c =
    omega (arith, cut_size c.args.piece.now c.in_ok-first.first.now c.in_ok-second.second.now c.in-Some.rest.now (cut (goal.at.overflow_sub-cells c).In-Some))

pub returns-in-Some : goal.returns-in-Some
returns-in-Some c =
    let first = c.in_ok-first.first.now in
    let second = c.in_ok-second.second.now in
    let rest = c.in-Some.rest.now in
    let parts = cut (goal.at.returns-in-Some c).In-Some in
    let passed = both_passed c.stock.result c.field_type.result (c.in_ok-stock.stock, c.in_ok-stock.kind) c.in_ok-stock.ensures in
    let k = field_number (integer 1 7 second) c.field_type.result c.in_ok-stock.kind c.field_type.ensures passed.1 in
    headed c.args.piece.now first second rest c.in_ok-stock.stock k.0 _ c.in_ok-stock.kind parts (omega (arith, cut_size c.args.piece.now first second rest parts)) (sym c.stock.ensures.stock ∙ passed.0) k.1 k.2

pub returns-in_err-stock : goal.returns-in_err-stock
returns-in_err-stock c =
    let a = (goal.at.returns-in_err-stock c).After-both in
    let first = c.in_ok-first.first.now in
    let second = c.in_ok-second.second.now in
    let q = c.in_err-stock.field-0.0 in
    let f = err_from_is_err_and c.from_residual-in_err-stock.result c.from_residual-in_err-stock.ensures.1 in
    let pair : ℕ → FieldType → ℕ × FieldType = λ s t. (s, t) in
    let e : Err q ≡ row_head first second =
    c.in_err-stock.ensures
    ∙ ap (λ (x : Result ℕ Question). both pair x c.field_type.result) c.stock.ensures.stock
    ∙ ap (both pair (stock_cell first)) c.field_type.ensures
    ∙ both_as pair field_of (stock_cell first) (integer 1 7 second) in
    rw (f.1, f.2) (λ p. ap (row_cells p) (one a ∙ ap (λ (l : List (List ℕ)). first ∷ l) (two a)) ∙ ap (λ (x : Result (ℕ × FieldType) Question). and_then x (row_of p (cells_left c.next-2.new.self))) (sym e))
