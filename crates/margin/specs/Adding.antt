-- What a position adds to the scenario totals of its group.
use Rattle.std.specs.Prelude.{◌^◌, List, map, length, ℤ, pos, ◌+ℤ◌, ◌*ℤ◌, slice_index_or}
use Rattle.std.specs.List.{range_with_len}
use Rattle.amounts.specs.Rounding.{round_off}

-- the totals, in dollars, with the market value times each return, in hundred-millionths; where there is no return, nothing is added
abbrev pub with_products : ℤ → List ℤ → List ℤ → List ℤ
with_products value returns totals =
    map (λ i. slice_index_or totals i (pos 0) +ℤ round_off (10 ^ 8) (value *ℤ slice_index_or returns i (pos 0))) (range_with_len 0 (length totals))
