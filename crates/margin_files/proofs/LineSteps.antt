-- A line taken by its number. Assumes nothing.
use Rattle.std.proofs.Common.{◌≡◌, ℕ, zero, suc, List, [], ◌∷◌, drop, refl}
use Rattle.std.specs.List.{slice_get}
use Rattle.margin_files.specs.Files.{first_of}

pub first_dropped : (n : ℕ) (ls : List (List ℕ)) → slice_get ls n ≡ first_of (drop n ls)
first_dropped zero [] = refl
first_dropped (suc n) [] = refl
first_dropped zero (l ∷ ls) = refl
first_dropped (suc n) (l ∷ ls) = first_dropped n ls
