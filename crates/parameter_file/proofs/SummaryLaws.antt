-- Counts over the stocks. Assumes nothing.
use Rattle.std.proofs.Common.{◌≡◌, ℕ, zero, suc, ◌+◌, ◌<◌, ◌≤◌, Bool, true, false, List, length, get_or, ℤ, is_some, is_ok, Option, refl, ap, ◌∙◌, add-one, arith}
use mir.Val.{bool_byte}
use Rattle.return_source.specs.declared.terms.Tier.{Tier}
use Rattle.return_source.specs.declared.terms.EntitlementType.TheVariants.{Dsp, Sri}
use Rattle.return_source.specs.Meaning.{tier_by, tier_of}
use Rattle.parameter_heading.specs.declared.terms.Heading.{Heading}
use Rattle.parameter_file.specs.declared.terms.StockRows.{StockRows}
use Rattle.file_rules.specs.Rows.{meaning}
use Rattle.file_rules.specs.Judged.{stock_places, verdict}
use Rattle.parameter_file.specs.Table.{no_rows, Says}
use Rattle.return_source.specs.declared.terms.ScenarioSet.TheVariants.{Historical, Stress}
use Rattle.parameter_file.specs.Checked.{file_of, heading_in, Indexed, tally, yes, in_tier, tier_count, rights_of, entitlement_count, tier_in, rights_in}
use Rattle.parameter_file.proofs.IndexLaws.{place_says}

pub tally_zero : (f : ℕ → ℕ) → tally f 0 ≡ 0
unfolding tally
tally_zero f = refl

pub tally_more : (f : ℕ → ℕ) (n : ℕ) → tally f (n + 1) ≡ tally f n + f n
unfolding tally
tally_more f n = rw add-one refl

pub tally_same : (f g : ℕ → ℕ) (n : ℕ) → ((s : ℕ) → s < n → f s ≡ g s) → tally f n ≡ tally g n
unfolding tally
tally_same f g zero h = refl
tally_same f g (suc n) h = ap (λ (k : ℕ). k + f n) (tally_same f g n (λ s l. h s (omega arith))) ∙ ap (λ (k : ℕ). tally g n + k) (h n (omega arith))

pub yes_byte : (b : Bool) → (bool_byte b ≡ yes b) × (bool_byte b ≤ 1)
yes_byte true = (refl, omega arith)
yes_byte false = (refl, omega arith)

-- a checked file's counts over its table are those of its meaning
module _ (bytes : List ℕ) (kept : List ℤ) (table : List StockRows) (h : Heading) (ok : is_ok (verdict bytes) ≡ true) (e : h ≡ heading_in (verdict bytes) h) (size : length table ≡ stock_places) (i : Indexed bytes kept table) where
  says : (s : ℕ) → s < stock_places → Says h.parameters kept (file_of bytes h).rows s (get_or table s no_rows)
  says s l = place_says bytes kept table h ok e i s (omega arith)

  pub tiers_counted : (t : Tier) → tally (λ s. yes (in_tier t (tier_in (get_or table s no_rows)))) (length table) ≡ tier_count (meaning (file_of bytes h)) t
  tiers_counted t =
      ap (tally (λ s. yes (in_tier t (tier_in (get_or table s no_rows))))) size
      ∙ tally_same (λ s. yes (in_tier t (tier_in (get_or table s no_rows)))) (λ s. yes (in_tier t (tier_of (meaning (file_of bytes h)) s))) stock_places
      (λ s l.
      let w = says s l in
      let x = get_or table s no_rows in
      ap (λ (o : Option Tier). yes (in_tier t o)) (
      ap (λ (b : Bool). tier_by b (is_some x.stress) (is_some x.rate)) w.0.0
      ∙ ap (λ (b : Bool). tier_by (is_some ((meaning (file_of bytes h)).returns Historical s)) b (is_some x.rate)) w.1.0
      ∙ ap (λ (o : Option ℕ). tier_by (is_some ((meaning (file_of bytes h)).returns Historical s)) (is_some ((meaning (file_of bytes h)).returns Stress s)) (is_some o)) w.2))

  pub rights_counted : tally (λ s. rights_in (get_or table s no_rows)) (length table) ≡ entitlement_count (meaning (file_of bytes h))
  rights_counted =
      ap (tally (λ s. rights_in (get_or table s no_rows))) size
      ∙ tally_same (λ s. rights_in (get_or table s no_rows)) (rights_of (meaning (file_of bytes h))) stock_places
      (λ s l.
      let w = says s l in
      let x = get_or table s no_rows in
      let m = meaning (file_of bytes h) in
      ap (λ (b : Bool). yes b + yes (is_some x.sri) + yes (is_some x.div)) (ap is_some w.3)
      ∙ ap (λ (b : Bool). yes (is_some (m.entitlement Dsp s)) + yes b + yes (is_some x.div)) (ap is_some w.4)
      ∙ ap (λ (b : Bool). yes (is_some (m.entitlement Dsp s)) + yes (is_some (m.entitlement Sri s)) + yes b) (ap is_some w.5))
