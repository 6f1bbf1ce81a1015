use Rattle.std.proofs.Common.{ℕ, take, drop, ap, ◌∙◌, rules, tests, arith}
use Rattle.std.proofs.lemmas.Iterator.{YieldsList-from_slice}
use Rattle.std.proofs.lemmas.Iterator.Search.{YieldsList-from_take_while}
use Rattle.std.proofs.lemmas.Iterator.Consumers.{count_from_yields_List}
use Rattle.std.proofs.lemmas.List.Folds.{length-prefix_len}
use Rattle.std.proofs.lemmas.List.Sums.{prefix_len-le-length}
use Rattle.parameter_text.specs.Digits.{digit}
use Rattle.parameter_text.proofs.digits.leading_digits.Goals as goal

pub split_at-requires : goal.split_at-requires
split_at-requires c =
    let bytes = c.args.bytes.now in
    let n = count_from_yields_List c.take_while.result _ c.count-n.ensures.ran (YieldsList-from_take_while _ digit (YieldsList-from_slice bytes cc) c.take_while.ensures.closure c.take_while.ensures.done (λ x b q k. search (rules, tests))) ∙ length-prefix_len digit bytes in
    omega (arith, n, prefix_len-le-length digit bytes)

pub returns : goal.returns
returns c =
    let bytes = c.args.bytes.now in
    let n = count_from_yields_List c.take_while.result _ c.count-n.ensures.ran (YieldsList-from_take_while _ digit (YieldsList-from_slice bytes cc) c.take_while.ensures.closure c.take_while.ensures.done (λ x b q k. search (rules, tests))) ∙ length-prefix_len digit bytes in
    record { digits = c.split_at.ensures.front ∙ ap (λ (k : ℕ). take k bytes) n; rest = c.split_at.ensures.back ∙ ap (λ (k : ℕ). drop k bytes) n }
