use Rattle.std.proofs.Common.{◌≡◌, ◌*◌, ◌≤◌, get_or}
use Rattle.return_source.specs.declared.terms.Tier.TheVariants.{Portfolio, Flat}
use Rattle.parameter_file.specs.Table.{no_rows}
use Rattle.parameter_file.specs.Checked.{tally, yes, in_tier, tier_in, rights_in}
use Rattle.parameter_file.proofs.summary.counted.Given as goal

abbrev pub invariant-loop-rows : goal.invariant-loop-rows
invariant-loop-rows l =
    (l.portfolio_stocks ≡ tally (λ s. yes (in_tier Portfolio (tier_in (get_or l.table s no_rows)))) l.rows-index)
    × (l.flat_stocks ≡ tally (λ s. yes (in_tier Flat (tier_in (get_or l.table s no_rows)))) l.rows-index)
    × (l.entitlements ≡ tally (λ s. rights_in (get_or l.table s no_rows)) l.rows-index)
    × (l.portfolio_stocks ≤ l.rows-index)
    × (l.flat_stocks ≤ l.rows-index)
    × (l.entitlements ≤ 3 * l.rows-index)
