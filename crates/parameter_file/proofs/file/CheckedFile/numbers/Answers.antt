use Rattle.std.proofs.Common.{ℕ, List, length, get_or, vec_items, ap, ◌∙◌}
use Rattle.return_source.specs.declared.terms.Tier.TheVariants.{Portfolio, Flat}
use Rattle.parameter_heading.specs.declared.terms.Heading.{Heading}
use Rattle.parameter_file.specs.declared.terms.StockRows.{StockRows}
use Rattle.parameter_file.specs.Table.{no_rows}
use Rattle.file_rules.specs.Rows.{meaning}
use Rattle.parameter_file.specs.Checked.{file_of, tier_count, tally, yes, in_tier, tier_in, rights_in}
use Rattle.parameter_file.proofs.SummaryLaws.{tiers_counted, rights_counted}
use Rattle.parameter_file.proofs.file.CheckedFile.numbers.Goals as goal

pub returns-clause-summary : goal.returns-clause-summary
returns-clause-summary c =
    let x = c.args.self.now in
    let bytes = x.bytes.now in
    let K = vec_items x.memory.kept in
    let T = vec_items x.memory.table in
    let h = x.heading in
    let e = c.counted.ensures in
    let same = c.as_slice.ensures.value in
    let a = e.portfolio ∙ ap (λ (l : List StockRows). tally (λ s. yes (in_tier Portfolio (tier_in (get_or l s no_rows)))) (length l)) same ∙ tiers_counted bytes K T h x.passed x.heads x.size x.index Portfolio in
    let b = e.flat ∙ ap (λ (l : List StockRows). tally (λ s. yes (in_tier Flat (tier_in (get_or l s no_rows)))) (length l)) same ∙ tiers_counted bytes K T h x.passed x.heads x.size x.index Flat in
    let d = e.rights ∙ ap (λ (l : List StockRows). tally (λ s. rights_in (get_or l s no_rows)) (length l)) same ∙ rights_counted bytes K T h x.passed x.heads x.size x.index in
    ap (λ (g : Heading). record c.counted.result { heading = g }) e.heading
    ∙ ap (λ (n : ℕ). record { heading = h; portfolio_stocks = n; flat_stocks = c.counted.result.flat_stocks; entitlements = c.counted.result.entitlements }) a
    ∙ ap (λ (n : ℕ). record { heading = h; portfolio_stocks = tier_count (meaning (file_of bytes h)) Portfolio; flat_stocks = n; entitlements = c.counted.result.entitlements }) b
    ∙ ap (λ (n : ℕ). record { heading = h; portfolio_stocks = tier_count (meaning (file_of bytes h)) Portfolio; flat_stocks = tier_count (meaning (file_of bytes h)) Flat; entitlements = n }) d
