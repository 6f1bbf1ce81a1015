-- IPO stocks placed one after the other. Assumes nothing.
use Rattle.std.proofs.Common.{◌≡◌, ℕ, suc, ◌+◌, ◌-◌, ◌<◌, ◌≤◌, true, false, List, [], ◌∷◌, ◌++◌, length, take, drop, set, replicate, ℤ, Some, None, Option, nat_le, sym, refl, ap, ◌∙◌, arith, append_assoc, length-append}
use Rattle.std.specs.Option.{option_and_then}
use Rattle.std.proofs.lemmas.Bool.Decides.{nat_tests}
use Rattle.std.proofs.lemmas.List.{length-take, take-append-drop, drop-set-lt, drop-drop, drop-replicate, length-set}
use Rattle.std.proofs.Math.Seq.{take-suc-set}
use Rattle.margin_files.specs.Numbers.{whole_number, in_u32}
use Rattle.margin_files.specs.Wholes.{wholes, first_whole}
use Rattle.margin_files.specs.Settings.{placed, ipo_stocks}
use Rattle.margin_files.proofs.WholeSteps.{wholes_more, wholes_bad, wholes_end, wholes_over}

-- so many places hold the stocks that were read, and the others 0
pub record Placed (cells left : List (List ℕ)) (stocks : List ℕ) (k : ℕ) : Type 0 where
  pub read : ipo_stocks cells ≡ option_and_then (placed (take k stocks)) (wholes left)
  pub spare : drop k stocks ≡ replicate (16 - k) 0
  pub places : length stocks ≡ 16

pub placed_none : (cells : List (List ℕ)) → Placed cells cells (replicate 16 0) 0
unfolding ipo_stocks
placed_none cells = record { read = refl; spare = refl; places = refl }

same_then : {X Y : Type 0} (f g : X → Option Y) → ((x : X) → f x ≡ g x) → (o : Option X) → option_and_then f o ≡ option_and_then g o
same_then f g e None = refl
same_then f g e (Some x) = e x

placed_next : (front : List ℕ) (z : ℤ) (zs : List ℤ) → placed front (z ∷ zs) ≡ placed (front ++ in_u32 z ∷ []) zs
placed_next front z zs =
    let longer : length (front ++ in_u32 z ∷ []) + length zs ≡ length front + length (z ∷ zs) = omega (arith, length-append front (in_u32 z ∷ [])) in
    rw longer (rw append_assoc refl)

full : (front : List ℕ) → 16 ≤ length front → (z : ℤ) (zs : List ℤ) → placed front (z ∷ zs) ≡ None
full front h z zs =
    let no : nat_le (length front + length (z ∷ zs)) 16 ≡ false = grind (arith, nat_tests) in
    rw no refl

pub placed_all : (cells left : List (List ℕ)) (stocks : List ℕ) (k : ℕ) → Placed cells left stocks k → k ≤ 16 → left ≡ [] → Some stocks ≡ ipo_stocks cells
placed_all cells left stocks k s h e =
    let size : length (take k stocks) ≡ k = length-take k stocks ∙ omega (arith, s.places) in
    let yes : nat_le (length (take k stocks) + length {A = ℤ} []) 16 ≡ true = grind (arith, nat_tests) in
    let spare : replicate (16 - (length (take k stocks) + length {A = ℤ} [])) 0 ≡ drop k stocks = ap (λ (n : ℕ). replicate (16 - n) 0) (omega arith) ∙ sym s.spare in
    sym (s.read ∙ wholes_end (placed (take k stocks)) left e ∙ rw (yes, spare, take-append-drop) refl)

module _ (cells left rest : List (List ℕ)) (c : List ℕ) (stocks : List ℕ) (k : ℕ) (s : Placed cells left stocks k) (e : left ≡ c ∷ rest) where
  pub placed_bad : whole_number c ≡ None → None ≡ ipo_stocks cells
  placed_bad n = sym (s.read ∙ wholes_bad (placed (take k stocks)) left c rest e n)

  pub placed_more : (z : ℤ) (v : ℕ) → k < 16 → whole_number c ≡ Some z → v ≡ in_u32 z → Placed cells rest (set stocks k v) (k + 1)
  placed_more z v h n is =
      let inside : k < length stocks = omega (arith, s.places) in
      let first : first_whole left ≡ Some (z, rest) = rw e (rw n refl) in
      let next = same_then (λ zs. placed (take k stocks) (z ∷ zs)) (placed (take k stocks ++ in_u32 z ∷ [])) (placed_next (take k stocks) z) (wholes rest) in
      let one : k + 1 ≡ suc k = omega arith in
      let written : take (k + 1) (set stocks k v) ≡ take k stocks ++ in_u32 z ∷ [] = rw one (take-suc-set stocks k v inside ∙ ap (λ (w : ℕ). take k stocks ++ w ∷ []) is) in
      let less : 16 - k - 1 ≡ 16 - (k + 1) = omega arith in
      record {
        read = s.read ∙ wholes_more (placed (take k stocks)) left rest z first ∙ next ∙ ap (λ (front : List ℕ). option_and_then (placed front) (wholes rest)) (sym written);
        spare = drop-set-lt (k + 1) stocks k v (omega arith) ∙ sym (drop-drop 1 k stocks) ∙ ap (drop 1) s.spare ∙ drop-replicate 1 (16 - k) 0 ∙ ap (λ (n : ℕ). replicate n 0) less;
        places = length-set stocks k v ∙ s.places;
      }

  pub placed_over : 16 ≤ k → None ≡ ipo_stocks cells
  placed_over h =
      sym (s.read ∙ wholes_over (placed (take k stocks)) (full (take k stocks) (let size : length (take k stocks) ≡ 16 = length-take k stocks ∙ omega (arith, s.places) in omega arith)) left c rest e)
