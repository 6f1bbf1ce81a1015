-- A group's totals as outcomes.
use Rattle.std.specs.Prelude.{ℕ, ◌+◌, List, [], ◌∷◌, ℤ}
use Rattle.margin_rules.specs.declared.terms.Outcome.{Outcome}

-- the totals as outcomes, from a scenario on
abbrev pub outcomes : ℕ → List ℤ → List Outcome
outcomes n [] = []
outcomes n (t ∷ ts) = record { total = t; scenario = n } ∷ outcomes (n + 1) ts
