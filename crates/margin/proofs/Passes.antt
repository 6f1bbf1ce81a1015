-- Figures for each scenario. Assumes nothing.
use Rattle.std.proofs.Common.{◌≡◌, ℕ, ◌<◌, ◌≤◌, List, map, length, get_or, replicate, ℤ, pos, ◌+ℤ◌, unsigned_abs, sym, ap, ◌∙◌, subst, arith}
use Rattle.std.specs.List.{range_with_len, AllByRecursion as All}
use Rattle.std.proofs.lemmas.List.FromFn.{get_or-map-range_with_len, length-map-range_with_len, fill_by_all}
use Rattle.std.proofs.lemmas.List.{get_or-replicate}
use Rattle.std.proofs.lemmas.Int.{ints}
use Rattle.std.proofs.ByRecursion.{All-from_get_or}

-- a figure for each scenario, added to nothing
pub from_zero : (g : ℕ → ℤ) (n : ℕ) (zs us : List ℤ) → length zs ≡ n → zs ≡ replicate (length zs) (pos 0) → us ≡ map (λ j. get_or zs j (pos 0) +ℤ g j) (range_with_len 0 (length zs)) → us ≡ map g (range_with_len 0 n)
from_zero g n zs us l e is =
    fill_by_all g us n (pos 0) (ap length is ∙ length-map-range_with_len (λ j. get_or zs j (pos 0) +ℤ g j) 0 (length zs) ∙ l)
    (λ k h.
    let a : get_or us k (pos 0) ≡ get_or zs k (pos 0) +ℤ g k = ap (λ l. get_or l k (pos 0)) is ∙ get_or-map-range_with_len (λ j. get_or zs j (pos 0) +ℤ g j) 0 (length zs) k k (pos 0) (omega arith) (omega arith) in
    let b : get_or zs k (pos 0) ≡ pos 0 = ap (λ l. get_or l k (pos 0)) e ∙ get_or-replicate (length zs) k (pos 0) (pos 0) (omega arith) in
    omega (arith, ints))

pub figures_small : (g : ℕ → ℤ) (b n : ℕ) (us : List ℤ) → us ≡ map g (range_with_len 0 n) → ((j : ℕ) → unsigned_abs (g j) ≤ b) → All (λ t. unsigned_abs t ≤ b) us
figures_small g b n us is h =
    subst (All (λ t. unsigned_abs t ≤ b)) (sym is) (All-from_get_or (λ t. unsigned_abs t ≤ b) (map g (range_with_len 0 n)) (pos 0)
    (λ i l. let a : i < n = omega (arith, length-map-range_with_len g 0 n) in omega (arith, h i, ap unsigned_abs (get_or-map-range_with_len g 0 n i i (pos 0) a (omega arith)))))
