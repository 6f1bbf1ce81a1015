use Rattle.std.proofs.Common.{◌≡◌, ℕ, ◌<◌, length, get_or, set, vec_items, sym, ap, ◌∙◌, subst, arith}
use Rattle.std.proofs.lemmas.List.{get_or_default}
use Rattle.parameter_text.specs.Cuts.{line_of}
use Rattle.parameter_file.specs.declared.terms.StockRows.{StockRows}
use Rattle.file_rules.specs.Judged.{with_stock}
use Rattle.parameter_file.specs.Table.{no_rows, held, taken, noted}
use Rattle.parameter_file.specs.Reading.{RowTaken}
use Rattle.parameter_file.proofs.ReadingLaws.{stock_within, not_first, row_taken}
use Rattle.parameter_file.proofs.file.Memory.take_row.Goals as goal
use Rattle.parameter_file.proofs.file.Memory.take_row.Goals.{After-index}

read : (c : After-index) → get_or (vec_items c.args.self.now.table) c.in_ok-row.row.stock no_rows ≡ c.index.result.now
read c =
    let e = c.in_ok-row.ensures.row in
    let T = vec_items c.args.self.now.table in
    let s = c.in_ok-row.row.stock in
    let inside : s < length T = omega (arith, stock_within c.args.rule.now.parameters (line_of c.args.text.now) (with_stock s (held c.in_ok-row.row.found e.0)) e.1.said, c.requires.places) in
    get_or_default T s no_rows c.index.result.now inside ∙ sym c.index.ensures

pub returns-then-has-clause-row : goal.returns-then-has-clause-row
returns-then-has-clause-row c rows k h =
    let e = c.in_ok-row.ensures.row in
    not_first c.args.rule.now.parameters c.args.text.now _ _ (vec_items c.args.self.now.table) rows c.in_ok-row.row.stock c.in_ok-row.row.found c.in_ok-row.row.next e.0 c.requires.places h e.1 (ap (λ (x : StockRows). taken x c.in_ok-row.row.found) (read (goal.at.returns-then-has-clause-row c).After-index) ∙ sym c.has.ensures ∙ c.if-has.true)

pub returns-clause-row : goal.returns-clause-row
returns-clause-row c rows k h =
    let e = c.in_ok-row.ensures.row in
    let K = vec_items c.args.self.now.kept in
    let T = vec_items c.args.self.now.table in
    let s = c.in_ok-row.row.stock in
    let x = with_stock s (held c.in_ok-row.row.found e.0) in
    let start : c.len-start.result ≡ length K = c.len-start.ensures ∙ c.args.self.now.kept.ok.0 in
    let there = read (goal.at.returns-clause-row c).After-index in
    let wrote : c.with.result ≡ noted (get_or T s no_rows) c.in_ok-row.row.found (length K) c.args.line = c.with.ensures ∙ ap (λ (x : StockRows). noted x c.in_ok-row.row.found c.len-start.result c.args.line) (sym there) ∙ ap (λ (n : ℕ). noted (get_or T s no_rows) c.in_ok-row.row.found n c.args.line) start in (
      x,
      subst (λ (w : StockRows). RowTaken c.args.rule.now.parameters c.args.text.now K (vec_items c.read_row.new.kept) (set T s w) rows c.in_ok-row.row.next x) (sym wrote)
          (row_taken c.args.rule.now.parameters c.args.text.now K (vec_items c.read_row.new.kept) T rows s c.in_ok-row.row.found c.in_ok-row.row.next e.0 c.requires.places h e.1 c.args.line k (ap (λ (x : StockRows). taken x c.in_ok-row.row.found) there ∙ sym c.has.ensures ∙ c.if-has.false)),
    )
