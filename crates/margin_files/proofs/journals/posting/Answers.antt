use Rattle.std.proofs.Common.{◌≡◌, [], ◌∷◌, w64, to_z, of_z, refl, sym, ◌∙◌, rules}
use mir.Val.{SFits}
use Rattle.std.proofs.lemmas.Int.{to_z-of_z}
use Rattle.margin_files.specs.Journals.{posting_of, posting_in}
use Rattle.margin_files.proofs.WholeSteps.{wholes_more, wholes_none, wholes_ended}
use Rattle.margin_files.proofs.journals.posting.Goals as goal

pub returns-in_err-number : goal.returns-in_err-number
unfolding posting_in
returns-in_err-number c = c.from_residual.ensures ∙ sym (wholes_none posting_of refl _ c.in_err-number.ensures)

pub returns-in_err-kind : goal.returns-in_err-kind
unfolding posting_in
returns-in_err-kind c = c.from_residual-in_err-kind.ensures ∙ sym (wholes_more posting_of _ _ _ c.in_ok-number.ensures ∙ wholes_none _ refl _ c.in_err-kind.ensures)

pub returns-in_err-stock : goal.returns-in_err-stock
unfolding posting_in
returns-in_err-stock c = c.from_residual-in_err-stock.ensures ∙ sym (wholes_more posting_of _ _ _ c.in_ok-number.ensures ∙ wholes_more _ _ _ _ c.in_ok-kind.ensures ∙ wholes_none _ refl _ c.in_err-stock.ensures)

pub returns-in_err-quantity : goal.returns-in_err-quantity
unfolding posting_in
returns-in_err-quantity c = c.from_residual-in_err-quantity.ensures ∙ sym (wholes_more posting_of _ _ _ c.in_ok-number.ensures ∙ wholes_more _ _ _ _ c.in_ok-kind.ensures ∙ wholes_more _ _ _ _ c.in_ok-stock.ensures ∙ wholes_none _ refl _ c.in_err-quantity.ensures)

pub returns-in_err-contract_value : goal.returns-in_err-contract_value
unfolding posting_in
returns-in_err-contract_value c = c.from_residual-in_err-contract_value.ensures ∙ sym (wholes_more posting_of _ _ _ c.in_ok-number.ensures ∙ wholes_more _ _ _ _ c.in_ok-kind.ensures ∙ wholes_more _ _ _ _ c.in_ok-stock.ensures ∙ wholes_more _ _ _ _ c.in_ok-quantity.ensures ∙ wholes_none _ refl _ c.in_err-contract_value.ensures)

pub returns-in_err-market_value : goal.returns-in_err-market_value
unfolding posting_in
returns-in_err-market_value c = c.from_residual-in_err-market_value.ensures ∙ sym (wholes_more posting_of _ _ _ c.in_ok-number.ensures ∙ wholes_more _ _ _ _ c.in_ok-kind.ensures ∙ wholes_more _ _ _ _ c.in_ok-stock.ensures ∙ wholes_more _ _ _ _ c.in_ok-quantity.ensures ∙ wholes_more _ _ _ _ c.in_ok-contract_value.ensures ∙ wholes_none _ refl _ c.in_err-market_value.ensures)

pub returns : goal.returns
unfolding posting_in
returns c =
    let fits_number : SFits w64 c.in_ok-number.number = search rules in
    let fits_kind : SFits w64 c.in_ok-kind.kind = search rules in
    let fits_stock : SFits w64 c.in_ok-stock.stock = search rules in
    let fits_quantity : SFits w64 c.in_ok-quantity.quantity = search rules in
    let fits_contract_value : SFits w64 c.in_ok-contract_value.contract_value = search rules in
    let fits_market_value : SFits w64 c.in_ok-market_value.market_value = search rules in
    let same : posting_of (c.in_ok-number.number ∷ c.in_ok-kind.kind ∷ c.in_ok-stock.stock ∷ c.in_ok-quantity.quantity ∷ c.in_ok-contract_value.contract_value ∷ c.in_ok-market_value.market_value ∷ []) ≡ posting_of (to_z w64 (of_z w64 c.in_ok-number.number) ∷ to_z w64 (of_z w64 c.in_ok-kind.kind) ∷ to_z w64 (of_z w64 c.in_ok-stock.stock) ∷ to_z w64 (of_z w64 c.in_ok-quantity.quantity) ∷ to_z w64 (of_z w64 c.in_ok-contract_value.contract_value) ∷ to_z w64 (of_z w64 c.in_ok-market_value.market_value) ∷ []) = simp to_z-of_z refl in
    c.then_some.ensures ∙ sym (wholes_more posting_of _ _ _ c.in_ok-number.ensures ∙ wholes_more _ _ _ _ c.in_ok-kind.ensures ∙ wholes_more _ _ _ _ c.in_ok-stock.ensures ∙ wholes_more _ _ _ _ c.in_ok-quantity.ensures ∙ wholes_more _ _ _ _ c.in_ok-contract_value.ensures ∙ wholes_more _ _ _ _ c.in_ok-market_value.ensures ∙ wholes_ended _ (same ∙ sym c.entry.ensures) (λ z zs. refl) _ _ _ _ c.is_none.ensures c.next.ensures.steps)
