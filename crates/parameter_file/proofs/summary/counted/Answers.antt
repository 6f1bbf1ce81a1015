use Rattle.std.proofs.Common.{ℕ, ◌+◌, get_or, sym, ap, ◌∙◌, arith}
use mir.Val.{bool_byte}
use Rattle.return_source.specs.declared.terms.Tier.TheVariants.{Portfolio, Flat}
use Rattle.parameter_file.specs.Table.{no_rows}
use Rattle.parameter_file.specs.Checked.{tally, yes, in_tier, tier_in, rights_in}
use Rattle.parameter_file.proofs.SummaryLaws.{tally_zero, tally_more, yes_byte}
use Rattle.parameter_file.proofs.summary.counted.Goals as goal

pub loop-rows-init : goal.loop-rows-init
loop-rows-init c = (sym (tally_zero _), sym (tally_zero _), sym (tally_zero _), omega arith, omega arith, omega arith)

pub loop-rows-preserved : goal.loop-rows-preserved
loop-rows-preserved c =
    let T = c.args.table.now in
    let i = c.loop-rows.rows-index in
    let p : ℕ → ℕ = λ s. yes (in_tier Portfolio (tier_in (get_or T s no_rows))) in
    let f : ℕ → ℕ = λ s. yes (in_tier Flat (tier_in (get_or T s no_rows))) in
    let g : ℕ → ℕ = λ s. rights_in (get_or T s no_rows) in
    let a = yes_byte c.is_in.result in
    let b = yes_byte c.is_in-in-loop-rows.result in
    let v = c.loop-rows.invariant in (
      ap (λ (n : ℕ). n + bool_byte c.is_in.result) v.0 ∙ ap (λ (n : ℕ). tally p i + n) (a.0 ∙ ap yes c.is_in.ensures) ∙ sym (tally_more p i),
      ap (λ (n : ℕ). n + bool_byte c.is_in-in-loop-rows.result) v.1 ∙ ap (λ (n : ℕ). tally f i + n) (b.0 ∙ ap yes c.is_in-in-loop-rows.ensures) ∙ sym (tally_more f i),
      ap (λ (n : ℕ). n + c.rights-entitlements.result) v.2 ∙ ap (λ (n : ℕ). tally g i + n) c.rights-entitlements.ensures.value ∙ sym (tally_more g i),
      omega (arith, v.3, a.1),
      omega (arith, v.4, b.1),
      omega (arith, v.5, c.rights-entitlements.ensures.few),
    )
