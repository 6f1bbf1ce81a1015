-- Whole numbers taken from cells one after the other. Assumes nothing.
use Rattle.std.proofs.Common.{◌≡◌, ℕ, Bool, List, [], ◌∷◌, ℤ, Some, None, Option, MatchOption, is_some, not, true, false, refl, ap, ◌∙◌}
use denote.Ref.{Bor}
use Rattle.std.specs.Option.{option_map, option_and_then}
use Rattle.std.specs.Bool.{then_some}
use Rattle.margin_files.specs.Numbers.{whole_number}
use Rattle.margin_files.specs.Wholes.{in_front, wholes, first_whole}

module _ {Y : Type 0} (f : List ℤ → Option Y) where
  one_in_front : (z : ℤ) (o : Option (List ℤ)) → option_and_then f (in_front (Some z) o) ≡ option_and_then (λ zs. f (z ∷ zs)) o
  one_in_front z None = refl
  one_in_front z (Some zs) = refl

  first_in_front : (o : Option ℤ) (c : List ℕ) (cs rest : List (List ℕ)) (z : ℤ) → option_map {U = ℤ × List (List ℕ)} (λ y. (y, cs)) o ≡ Some (z, rest) → option_and_then f (in_front o (wholes cs)) ≡ option_and_then (λ zs. f (z ∷ zs)) (wholes rest)
  first_in_front None c cs rest z e = absurd (let k : ◌≡◌ {A = Option (ℤ × List (List ℕ))} None (Some (z, rest)) = e in cc)
  first_in_front (Some y) c cs rest z e =
      let k : ◌≡◌ {A = Option (ℤ × List (List ℕ))} (Some (y, cs)) (Some (z, rest)) = e in
      let pair : ◌≡◌ {A = ℤ × List (List ℕ)} (y, cs) (z, rest) = cc in
      let same : y ≡ z = ap (λ (p : ℤ × List (List ℕ)). p.0) pair in
      let others : cs ≡ rest = ap (λ (p : ℤ × List (List ℕ)). p.1) pair in
      one_in_front y (wholes cs) ∙ rw (same, others) refl

  -- the first number, and then the others
  pub wholes_more : (cs rest : List (List ℕ)) (z : ℤ) → first_whole cs ≡ Some (z, rest) → option_and_then f (wholes cs) ≡ option_and_then (λ zs. f (z ∷ zs)) (wholes rest)
  wholes_more [] rest z e = absurd (let k : ◌≡◌ {A = Option (ℤ × List (List ℕ))} None (Some (z, rest)) = e in cc)
  wholes_more (c ∷ cs) rest z e = first_in_front (whole_number c) c cs rest z e

  none_in_front : (o : Option ℤ) (cs : List (List ℕ)) → option_map {U = ℤ × List (List ℕ)} (λ y. (y, cs)) o ≡ None → option_and_then f (in_front o (wholes cs)) ≡ None
  none_in_front None cs e = refl
  none_in_front (Some y) cs e = absurd (let k : ◌≡◌ {A = Option (ℤ × List (List ℕ))} (Some (y, cs)) None = e in cc)

  -- no number where one is needed
  pub wholes_none : f [] ≡ None → (cs : List (List ℕ)) → first_whole cs ≡ None → option_and_then f (wholes cs) ≡ None
  wholes_none n [] e = n
  wholes_none n (c ∷ cs) e = none_in_front (whole_number c) cs e

  -- a cell that is none
  pub wholes_bad : (cs : List (List ℕ)) (c : List ℕ) (rest : List (List ℕ)) → cs ≡ c ∷ rest → whole_number c ≡ None → option_and_then f (wholes cs) ≡ None
  wholes_bad cs c rest e n = rw e (rw n refl)

  -- no cell more
  pub wholes_end : (cs : List (List ℕ)) → cs ≡ [] → option_and_then f (wholes cs) ≡ f []
  wholes_end cs e = rw e refl

  none_over : ((z : ℤ) (zs : List ℤ) → f (z ∷ zs) ≡ None) → (o : Option ℤ) (p : Option (List ℤ)) → option_and_then f (in_front o p) ≡ None
  none_over n None p = refl
  none_over n (Some z) None = refl
  none_over n (Some z) (Some zs) = n z zs

  -- a cell where none may stand
  pub wholes_over : ((z : ℤ) (zs : List ℤ) → f (z ∷ zs) ≡ None) → (cs : List (List ℕ)) (c : List ℕ) (rest : List (List ℕ)) → cs ≡ c ∷ rest → option_and_then f (wholes cs) ≡ None
  wholes_over n cs c rest e = rw e (none_over n (whole_number c) (wholes rest))

  -- whether no cell is left where the numbers end
  pub wholes_ended : {y : Y} → f [] ≡ Some y → ((z : ℤ) (zs : List ℤ) → f (z ∷ zs) ≡ None) → (o : Option (Bor (List ℕ))) (end : Bool) (cs rest : List (List ℕ)) → is_some o ≡ not end → MatchOption o ((cs ≡ []) × (rest ≡ [])) (λ c. cs ≡ c.now ∷ rest) → option_and_then f (wholes cs) ≡ then_some end y
  wholes_ended e n None true cs rest is s = wholes_end cs s.0 ∙ e
  wholes_ended e n (Some c) false cs rest is s = wholes_over n cs c.now rest s
  wholes_ended e n None false cs rest is s = absurd (let z : false ≡ true = is in cc)
  wholes_ended e n (Some c) true cs rest is s = absurd (let z : true ≡ false = is in cc)
