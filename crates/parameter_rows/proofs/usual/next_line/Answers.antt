use Rattle.std.proofs.Common.{ℕ, ◌-◌, eqb, List, [], length, take, drop, sym, ◌∙◌, subst, rules, tests}
use Rattle.std.proofs.lemmas.List.{take_rest}
use Rattle.std.proofs.lemmas.Iterator.{YieldsList-from_slice}
use Rattle.std.proofs.lemmas.Iterator.Search.{YieldsList-from_take_while}
use Rattle.std.proofs.lemmas.Iterator.Consumers.{count_from_yields_List}
use Rattle.std.proofs.lemmas.List.Folds.{length-prefix_len}
use Rattle.parameter_text.specs.Cuts.{Starts}
use Rattle.parameter_rows.specs.Reading.{Ends}
use Rattle.parameter_rows.proofs.UsualRows.{ends_after}
use Rattle.parameter_rows.proofs.usual.next_line.Goals as goal

pub returns : goal.returns
returns c =
    let line = c.args.rest.now in
    let k = c.count-commas.result in
    let n = c.in_ok-end_length.field-0 in
    let last = take (length line - k) (drop k line) in
    let commas = count_from_yields_List c.take_while.result _ c.count-commas.ensures.ran (YieldsList-from_take_while _ (λ x. eqb x 44) (YieldsList-from_slice line cc) c.take_while.ensures.closure c.take_while.ensures.done (λ x b q k. search (rules, tests))) ∙ length-prefix_len (λ x. eqb x 44) line in
    let starts = subst (λ (m : List ℕ). Starts m [] (drop n last)) (take_rest line k) c.in_ok-end_length.ensures.ends in
    subst (Ends line) (sym (take_rest last n)) (ends_after line (drop n last) k commas starts)
