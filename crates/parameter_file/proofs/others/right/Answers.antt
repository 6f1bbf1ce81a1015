use Rattle.std.proofs.Common.{◌≡◌, ℕ, Ok, Err, Result, sym, refl, ap, ◌∙◌}
use Rattle.std.proofs.lemmas.Result.{err_from_is_err_and}
use Rattle.parameter_text.specs.declared.terms.Question.{Question}
use Rattle.parameter_text.specs.Questions.{both, seen_as}
use Rattle.return_source.specs.declared.terms.Entitlement.{Entitlement}
use Rattle.return_source.specs.declared.terms.EntitlementType.{EntitlementType}
use Rattle.file_rules.specs.Rows.{right}
use Rattle.file_rules.specs.Judged.{type_cell, price_cell, percent_cell, priced}
use Rattle.parameter_file.proofs.HeadLaws.{both_as}
use Rattle.parameter_file.proofs.others.right.Goals as goal

by_pairs : {X Y Z : Type 0} (f : X → Y → Z) (r : Result X Question) (s : Result Y Question) → both f r s ≡ seen_as (λ (p : X × Y). f p.0 p.1) (both (λ (x : X) (y : Y). (x, y)) r s)
by_pairs f (Ok x) (Ok y) = refl
by_pairs f (Ok x) (Err q) = refl
by_pairs f (Err p) (Ok y) = refl
by_pairs f (Err p) (Err q) = refl

pub returns-in_err-kind : goal.returns-in_err-kind
returns-in_err-kind c =
    let p = err_from_is_err_and c.from_residual.result c.from_residual.ensures.1 in
    let a = type_cell c.args.kind.now in
    let b = price_cell c.args.price.now in
    let s = percent_cell c.args.short.now in
    let l = percent_cell c.args.long.now in
    let two : Result ℕ Question → Result ℕ Question → Result (ℕ × ℕ) Question = both (λ (x y : ℕ). (x, y)) in
    let three : Result ℕ Question → Result (ℕ × ℕ) Question → Result (ℕ × (ℕ × ℕ)) Question = both (λ (x : ℕ) (y : ℕ × ℕ). (x, y)) in
    let four : Result EntitlementType Question → Result (ℕ × (ℕ × ℕ)) Question → Result (EntitlementType × (ℕ × (ℕ × ℕ))) Question = both (λ (x : EntitlementType) (y : ℕ × (ℕ × ℕ)). (x, y)) in
    let percentages : c.both-percentages.result ≡ two s l = c.both-percentages.ensures ∙ ap (λ (x : Result ℕ Question). two x c.size-2.result) c.size.ensures ∙ ap (two s) c.size-2.ensures in
    let all : c.both-priced.result ≡ three b (two s l) = c.both-priced.ensures ∙ ap (λ (x : Result ℕ Question). three x c.both-percentages.result) c.size-3.ensures ∙ ap (three b) percentages in
    let e : Err c.in_err-kind.field-0.0 ≡ four a (three b (two s l)) = c.in_err-kind.ensures ∙ ap (λ (x : Result EntitlementType Question). four x c.both-priced.result) c.entitlement_type.ensures ∙ ap (four a) all in
    let g : ℕ × (ℕ × ℕ) → Entitlement = λ p. priced p.0 p.1 in
    rw (p.1, p.2) (ap (seen_as (λ (p : EntitlementType × (ℕ × (ℕ × ℕ))). right p.0 (g p.1))) e
    ∙ sym (ap (both right a) (by_pairs priced b (two s l)) ∙ both_as right g a (three b (two s l)) ∙ by_pairs (λ (x : EntitlementType) (z : ℕ × (ℕ × ℕ)). right x (g z)) a (three b (two s l))))
