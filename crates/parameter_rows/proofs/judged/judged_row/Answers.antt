use Rattle.std.proofs.Common.{◌≡◌, ℕ, List, length, Ok, Err, sym, ap, ◌∙◌}
use Rattle.std.proofs.lemmas.Result.{err_from_is_err_and}
use Rattle.parameter_text.specs.Cuts.{cells, line_of}
use Rattle.parameter_rows.specs.Returns.{returns_cells}
use Rattle.parameter_rows.proofs.ReturnLaws.{returns_pass}
use Rattle.parameter_rows.proofs.judged.judged_row.Goals as goal

pub returns-in_err-judged_line : goal.returns-in_err-judged_line
returns-in_err-judged_line c =
    let xs = c.args.text.now in
    let row = c.args.row.now in
    let p = err_from_is_err_and c.from_residual.result c.from_residual.ensures.1 in
    let said : (n : ℕ) → n ≡ length row → returns_cells n (cells (line_of xs)) ≡ Err c.in_err-judged_line.field-0.0 = λ n e.
    ap (λ (k : ℕ). returns_cells k (cells (line_of xs))) e ∙ ap (λ (l : List ℕ). returns_cells (length row) (cells l)) (sym c.front_line-next.ensures.line) ∙ c.in_err-judged_line.ensures in
    rw (p.1, p.2) (record { judged = said; next = tt; law = returns_pass })

pub returns : goal.returns
returns c =
    let xs = c.args.text.now in
    let row = c.args.row.now in
    let said : (n : ℕ) → n ≡ length row → returns_cells n (cells (line_of xs)) ≡ Ok c.judged_line.new.row = λ n e.
    ap (λ (k : ℕ). returns_cells k (cells (line_of xs))) e ∙ ap (λ (l : List ℕ). returns_cells (length row) (cells l)) (sym c.front_line-next.ensures.line) ∙ c.in_ok-judged_line.ensures in
    record { judged = said; next = (c.front_line-next.ensures.after, c.front_line-next.ensures.within); law = returns_pass }
