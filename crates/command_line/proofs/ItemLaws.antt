-- The next item that passes a test, and the texts of the items of a kind. Assumes nothing.
use Rattle.std.proofs.Common.{◌≡◌, Bool, true, false, List, [], ◌∷◌, filter, map, Option, Some, None, option_map, MatchOption, refl, sym, ap, ◌∙◌, subst, Bor}
use denote.Param.Members.{Mut}
use Rattle.std.specs.Fn.{CalledAt}
use Rattle.std.specs.List.{FoldsTo}
use Rattle.std.specs.Iterator.{Yields, YieldsFirstBy, FindsItem}
use Rattle.command_line.specs.declared.items.Item.{Item}
use Rattle.command_line.specs.Items.{Text, Said, seen, of_kind, texts_of, first_of}

module _ {S A B F : Type 0} (v : A → B) (rest : S → List B) (test : B → Bool) (g : Mut F (Bor A × Unit {0}) Bool) (f : F) (tested : (x : A) (b : Bool) (q : F) → CalledAt g f x b q → (q ≡ f) × (b ≡ test (v x))) where
  -- the items that were passed over fail the test
  passed_over : (xs : List A) (s t : S) (j : F) → Yields (YieldsFirstBy v rest) s xs t → FoldsTo (λ p x q. CalledAt g p x false q) f xs j → (filter test (rest s) ≡ filter test (rest t)) × (j ≡ f)
  passed_over [] s t j y w = (ap (λ u. filter test (rest u)) y, sym w)
  passed_over (x ∷ xs) s t j y w =
      let told = tested x false w.0 w.1 in
      let others = passed_over xs y.0 t j y.2 (subst (λ p. FoldsTo (λ p' x' q. CalledAt g p' x' false q) p xs j) told.0 w.2) in
      (ap (filter test) y.1 ∙ rw (← told.1) others.0, others.1)

  -- the item that was found, and those that pass after it
  pub next_passing : (s u : S) (r : Option A) → FindsItem (YieldsFirstBy v rest) g s f r u → MatchOption r ((filter test (rest s) ≡ []) × (filter test (rest u) ≡ [])) (λ x. filter test (rest s) ≡ v x ∷ filter test (rest u))
  next_passing s u None w =
      let over = passed_over w.0 s w.2.0 w.1 w.2.1 w.3 in
      (over.0 ∙ ap (filter test) w.2.2.0, ap (filter test) w.2.2.1)
  next_passing s u (Some x) w =
      let over = passed_over w.0 s w.2.0 w.1 w.2.1 w.3 in
      let told = tested x true w.4.0 (subst (λ p. CalledAt g p x true w.4.0) over.1 w.4.1) in
      over.0 ∙ ap (filter test) w.2.2 ∙ rw (← told.1) refl

-- its text, and the texts of the others
pub next_text : {K : Type 0} (same : K → K → Bool) (k : K) (is js : List (Said K)) (o : Option (Item K)) (r : Option (Bor Text)) → option_map (λ t. t.now) r ≡ option_map (λ i. i.text.now) o
    → MatchOption o ((of_kind same k is ≡ []) × (of_kind same k js ≡ [])) (λ i. of_kind same k is ≡ seen i ∷ of_kind same k js)
    → MatchOption r ((texts_of same k is ≡ []) × (texts_of same k js ≡ [])) (λ t. texts_of same k is ≡ t.now ∷ texts_of same k js)
next_text same k is js None None e w = (ap (map (λ i. i.text)) w.0, ap (map (λ i. i.text)) w.1)
next_text same k is js None (Some t) e w = absurd (cc)
next_text same k is js (Some i) None e w = absurd (cc)
next_text same k is js (Some i) (Some t) e w = let here : i.text.now ≡ t.now = cc in ap (map (λ j. j.text)) w ∙ rw here refl

-- the text of the first item
pub first_text : {K : Type 0} (is js : List (Said K)) (o : Option (Item K)) → MatchOption o ((is ≡ []) × (js ≡ [])) (λ i. is ≡ seen i ∷ js) → option_map (λ i. i.text.now) o ≡ first_of is
first_text is js None w = rw w.0 refl
first_text is js (Some i) w = rw w refl
