-- A part of a list moved one place on. Assumes nothing.
use Rattle.std.proofs.Common.{◌≡◌, ℕ, suc, ◌+◌, ◌-◌, ◌<◌, ◌≤◌, List, [], ◌∷◌, ◌++◌, length, get_or, take, drop, set, sym, refl, ap, ◌∙◌, arith}
use Rattle.std.specs.List.{between}
use Rattle.std.proofs.lemmas.List.{drop_more, take_more, append_assoc, set_at, length-take-le, get_or_append_left, get_or-take, take-append-drop}
use Rattle.std.proofs.lemmas.List.Edits.{between_none}

module _ {X : Type 0} where
  -- what has been moved, down to j
  abbrev pub moved : List X → ℕ → ℕ → List X
  moved old j to = take (j + 1) old ++ (between j to old ++ drop (to + 1) old)

  pub between_first : (xs : List X) (i to : ℕ) (d : X) → i < to → to ≤ length xs → between i to xs ≡ get_or xs i d ∷ between (i + 1) to xs
  between_first xs i to d h k =
      let n : to - i ≡ suc (to - (i + 1)) = omega arith in
      let front : drop i xs ≡ get_or xs i d ∷ drop (i + 1) xs = drop_more xs i d (omega arith) in
      rw (n, front) refl

  pub moved_none : (old : List X) (to : ℕ) → to < length old → old ≡ moved old to to
  moved_none old to h = rw (between_none old to) (sym (take-append-drop (to + 1) old))

  pub moved_more : (old ps : List X) (j to : ℕ) (y : X) → 0 < j → j ≤ to → to < length old → ps ≡ moved old j to → y ≡ get_or ps (j - 1) y → set ps j y ≡ moved old (j - 1) to
  moved_more old ps j to y p h k is read =
      let rest : List X = between j to old ++ drop (to + 1) old in
      let long : length (take j old) ≡ j = length-take-le j old (omega arith) in
      let one : j - 1 + 1 ≡ j = omega arith in
      let cut : ps ≡ take j old ++ (get_or old j y ∷ rest) = is ∙ ap (λ l. l ++ rest) (take_more old j y (omega arith)) ∙ append_assoc (take j old) (get_or old j y ∷ []) rest in
      let was : y ≡ get_or old (j - 1) y =
      read ∙ ap (λ l. get_or l (j - 1) y) cut ∙ get_or_append_left (take j old) (get_or old j y ∷ rest) y (j - 1) (omega arith) ∙ get_or-take j old (j - 1) y (omega arith) in
      let first : between (j - 1) to old ≡ y ∷ between j to old =
      between_first old (j - 1) to y (omega arith) (omega arith) ∙ (λ i. sym was i ∷ between (one i) to old) in
      ap (λ l. set l j y) cut ∙ set_at (take j old) (get_or old j y) rest y j long ∙ sym ((λ i. take (one i) old ++ (first i ++ drop (to + 1) old)))
