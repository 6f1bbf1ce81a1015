-- The numbers in the titles, one cell after the other. Assumes nothing.
use Rattle.std.proofs.Common.{◌≡◌, ℕ, suc, ◌+◌, ◌-◌, ◌<◌, Bool, ◌&&◌, List, ◌∷◌, sym, ap, ◌∙◌, arith}
use Rattle.parameter_text.specs.Integers.{stock_cell}
use Rattle.parameter_heading.specs.Headings.{counts_as, numbered}

module _ (i n : ℕ) (h : i < n) where
  one_less : n - i ≡ suc (n - (i + 1))
  one_less = omega arith

  -- the next cell, whether it is the next number or not
  pub numbered_next : (left : List (List ℕ)) (c : List ℕ) (cs : List (List ℕ)) (t : Bool) → left ≡ c ∷ cs → t ≡ counts_as (i + 1) (stock_cell c) → numbered (i + 1) (n - i) left ≡ (t && numbered (i + 1 + 1) (n - (i + 1)) cs)
  numbered_next left c cs t e s =
      ap (numbered (i + 1) (n - i)) e ∙ ap (λ (m : ℕ). numbered (i + 1) m (c ∷ cs)) one_less ∙ ap (λ (b : Bool). b && numbered (i + 1 + 1) (n - (i + 1)) cs) (sym s)
