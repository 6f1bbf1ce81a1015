use Rattle.std.proofs.Common.{◌≡◌, ℕ, ◌+◌, ◌-◌, true, List, ◌++◌, length, take, drop, replicate, ℤ, pos, is_ok, vec_items, vec_len, ap, ◌∙◌, subst, arith}
use Rattle.std.proofs.lemmas.List.{take_at, take_all, length-take-le, length-drop}
use Rattle.std.proofs.lemmas.Bool.{cond-true}
use Rattle.parameter_text.specs.Cuts.{cells, line_of}
use Rattle.parameter_rows.specs.Returns.{returns_cells, Agrees}
use Rattle.parameter_file.proofs.KeptLaws.{kept_after, kept_returns}
use Rattle.parameter_file.proofs.rows.keep_returns.Goals as goal

pub returns-clause-kept : goal.returns-clause-kept
returns-clause-kept c =
    let K = vec_items c.args.kept.now in
    let S = c.as_mut_slice-row.result.now in
    let start = c.len-start.result in
    let n = c.args.n in
    let R = c.returns_row.new.row in
    let len : length K ≡ start = omega (arith, c.args.kept.now.ok.0, c.len-start.ensures) in
    let ok : is_ok c.resize.result ≡ true = c.resize.ensures.succeeds (omega (arith, c.requires.room, c.len-start.ensures)) in
    let whole : take (start + n) K ≡ K = take_all (start + n) K (omega arith) in
    let items : S ≡ K ++ replicate (start + n - vec_len c.args.kept.now) (pos 0) = c.as_mut_slice-row.ensures.value ∙ c.resize.ensures.items ∙ cond-true (is_ok c.resize.result) _ _ ok ∙ ap (λ (x : List ℤ). x ++ replicate (start + n - vec_len c.args.kept.now) (pos 0)) whole in
    let grown : c.resize.new.self.len ≡ start + n = c.resize.ensures.len ∙ cond-true (is_ok c.resize.result) _ _ ok in
    let size : length S ≡ start + n = omega (arith, c.as_mut_slice-row.ensures.len, grown) in
    let front : take start S ≡ K = ap (take start) items ∙ take_at K _ start len in
    let part : length (take (length S - start) (drop start S)) ≡ n = length-take-le (length S - start) (drop start S) (omega (arith, length-drop start S)) ∙ omega (arith, size) in
    let row : length R ≡ n = omega (arith, part) in
    let judged : Agrees (returns_cells n (cells (line_of c.args.text.now))) c.returns_row.result R = subst (λ (k : ℕ). Agrees (returns_cells k (cells (line_of c.args.text.now))) c.returns_row.result R) part c.returns_row.ensures.judged in
    kept_returns n c.args.text.now K _ R c.returns_row.result c.requires.some judged c.returns_row.ensures.next (kept_after K R _ _ S _ start n grown len front row)
