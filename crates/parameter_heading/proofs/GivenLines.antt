-- A line that passes gives its name a value that passes, and the other way round. Assumes nothing.
use Rattle.std.proofs.Common.{◌≡◌, ℕ, Bool, true, not, eqb, List, [], ◌∷◌, ◌++◌, Ok, Err, Result, sym, refl, ap, ◌∙◌, subst, rules}
use Rattle.std.specs.List.{AllByRecursion as All}
use Rattle.std.proofs.lemmas.Slice.Eq.{compares_Decides}
use Rattle.std.proofs.lemmas.Bool.{cond-true, eqb-false, ne_eqb, not-true, not_from_false}
use Rattle.parameter_text.specs.declared.terms.Question.{Question}
use Rattle.parameter_text.specs.declared.terms.Question.TheVariants.{Name, Cells}
use Rattle.parameter_text.specs.Digits.{every}
use Rattle.parameter_text.specs.Questions.{and_then}
use Rattle.parameter_text.specs.Cuts.{cells, spliced}
use Rattle.parameter_text.proofs.CutLaws.{Apart, split_cut, split_last, spliced_split, split_apart}
use Rattle.parameter_text.proofs.DigitLaws.{every_fact, ok_cond, ok_same, ok_not_err}
use Rattle.parameter_heading.specs.Lines.{same_text, one_cell, value_after, valued_line, Judgement}
use Rattle.parameter_heading.specs.Laid.{NoComma, Gives}
use Rattle.parameter_heading.proofs.LineSteps.{answer, valued_first}

-- two judgements, one after the other

pub then_parts : {X Y E : Type 0} (r : Result X E) (f : X → Result Y E) (y : Y) → and_then r f ≡ Ok y → (x : X) × (r ≡ Ok x) × (f x ≡ Ok y)
then_parts (Ok x) f y h = (x, refl, h)
then_parts (Err e) f y h = absurd (ok_not_err y e h)

pub then_both : {X Y E : Type 0} (r : Result X E) (f : X → Result Y E) (x : X) (y : Y) → r ≡ Ok x → f x ≡ Ok y → and_then r f ≡ Ok y
then_both r f x y e h = ap (λ (q : Result _ _). and_then q f) e ∙ h

answer_parts : {X : Type 0} (k : ℕ) (ls rest : List (List ℕ)) (q : Result X Question) (x : X) → answer k ls q ≡ Ok (x, rest) → (q ≡ Ok x) × (ls ≡ rest)
answer_parts k ls rest (Ok y) x h = let p : ◌≡◌ {A = _ × List (List ℕ)} (y, ls) (x, rest) = ok_same _ _ h in (ap (λ (z : _ × List (List ℕ)). Ok z.0) p, ap (λ (z : _ × List (List ℕ)). z.1) p)
answer_parts k ls rest (Err q) x h = absurd (ok_not_err _ _ h)

-- texts

pub same_fact : (c name : List ℕ) → same_text c name ≡ true → c ≡ name
same_fact c name h = (compares_Decides same_text (search rules) c name).0 h

pub same_self : (name : List ℕ) → same_text name name ≡ true
same_self name = (compares_Decides same_text (search rules) name name).1 refl

-- a name that has no comma
abbrev pub whole_name : List ℕ → Bool
whole_name name = every (λ b. not (eqb b 44)) name

not_comma : (b : ℕ) → not (eqb b 44) ≡ true → b ≡ 44 → ⊥
not_comma b h = eqb-false b 44 (not-true (eqb b 44) h)

comma_free : (b : ℕ) → (b ≡ 44 → ⊥) → not (eqb b 44) ≡ true
comma_free b h = not_from_false (eqb b 44) (ne_eqb b 44 h)

pub name_apart : (name : List ℕ) → whole_name name ≡ true → Apart 44 name
name_apart name h = every_fact (λ b. not (eqb b 44)) (λ b. b ≡ 44 → ⊥) comma_free not_comma name h

-- a name and a value

one_parts : (cs : List (List ℕ)) (v : List ℕ) → one_cell cs ≡ Ok v → cs ≡ v ∷ []
one_parts [] v h = absurd (ok_not_err v Cells h)
one_parts (u ∷ []) v h = ap (λ (x : List ℕ). x ∷ []) (ok_same u v h)
one_parts (u ∷ w ∷ ws) v h = absurd (ok_not_err v Cells h)

value_parts : (name : List ℕ) (cs : List (List ℕ)) (v : List ℕ) → value_after name cs ≡ Ok v → cs ≡ name ∷ v ∷ []
value_parts name [] v h = absurd (ok_not_err v Name h)
value_parts name (c ∷ cs) v h =
    let p = ok_cond (same_text c name) (one_cell cs) Name v h in
    ap (λ (x : List ℕ). x ∷ cs) (same_fact c name p.0) ∙ ap (λ (l : List (List ℕ)). name ∷ l) (one_parts cs v p.1)

value_both : (name line v : List ℕ) → Apart 44 name → line ≡ name ++ 44 ∷ v → NoComma v → value_after name (cells line) ≡ Ok v
value_both name line v a e o =
    let cut : cells line ≡ name ∷ v ∷ [] = ap cells e ∙ split_cut 44 name v a ∙ ap (λ (l : List (List ℕ)). name ∷ l) (split_last 44 v o) in
    ap (value_after name) cut ∙ cond-true (same_text name name) (Ok v) (Err Name) (same_self name)

module _ {X : Type 0} (k : ℕ) (name : List ℕ) (judge : Judgement X) (x : X) where
  first_parts : (l : List ℕ) (ls rest : List (List ℕ)) → valued_line k name judge (l ∷ ls) ≡ Ok (x, rest) → (ls ≡ rest) × Gives l name (λ v. judge v ≡ Ok x)
  first_parts l ls rest h =
      let p = answer_parts k ls rest (and_then (value_after name (cells l)) judge) x (sym (valued_first k name judge l ls) ∙ h) in
      let q = then_parts (value_after name (cells l)) judge x p.0 in
      let v = q.0 in
      let cut : cells l ≡ name ∷ v ∷ [] = value_parts name (cells l) v q.1 in
      let apart : All (Apart 44) (name ∷ v ∷ []) = subst (All (Apart 44)) cut (split_apart 44 l) in
      (p.1, (v, spliced_split 44 l ∙ ap (spliced 44) cut, apart.1.0, q.2))

  -- a line that passes gives its name a value that passes
  pub line_parts : (ls rest : List (List ℕ)) → valued_line k name judge ls ≡ Ok (x, rest) → (line : List ℕ) × (ls ≡ line ∷ rest) × Gives line name (λ v. judge v ≡ Ok x)
  line_parts [] rest h = absurd (ok_not_err _ _ h)
  line_parts (l ∷ ls) rest h = let p = first_parts l ls rest h in (l, ap (λ (m : List (List ℕ)). l ∷ m) p.0, p.1)

  -- a line that gives its name a value that passes is worth what the value is
  pub line_passes : (P : List ℕ → Type 0) → ((v : List ℕ) → P v → judge v ≡ Ok x) → whole_name name ≡ true → (line : List ℕ) (rest : List (List ℕ)) → Gives line name P → valued_line k name judge (line ∷ rest) ≡ Ok (x, rest)
  line_passes P to w line rest (v, e, o, p) = valued_first k name judge line rest ∙ ap (answer k rest) (then_both (value_after name (cells line)) judge v x (value_both name line v (name_apart name w) e o) (to v p))

-- the same line, where more is known of its value
pub gives_more : (P Q : List ℕ → Type 0) → ((v : List ℕ) → P v → Q v) → (line name : List ℕ) → Gives line name P → Gives line name Q
gives_more P Q to line name (v, e, o, p) = (v, e, o, to v p)
