-- The cells read so far, the commas after the last one, and the line that they make. Assumes nothing.
use Rattle.std.proofs.Common.{◌≡◌, ℕ, zero, suc, ◌+◌, true, false, cond, eqb, ◌-◌, ◌<◌, ◌≤◌, List, [], ◌∷◌, ◌++◌, length, get_or, take, drop, set, replicate, ℤ, IfSome, Some, None, Ok, Option, sym, refl, ap, ◌∙◌, subst, inl, inr, ⊎_elim, arith}
use Rattle.std.specs.List.{prefix_len}
use Rattle.std.proofs.lemmas.Bool.{eqb-true, cases_lt}
use Rattle.std.proofs.lemmas.List.{take-append-drop, drop_all, append_assoc, append-nil, take_more_set, length-append, length-drop}
use Rattle.parameter_text.specs.Cuts.{cells, spliced, within_line, line_of, after_line, Starts}
use Rattle.parameter_rows.specs.Returns.{SpellsReturn, SpellReturns, Returns, returns_cells}
use Rattle.parameter_rows.specs.Reading.{Ends, followed, Followed}
use Rattle.parameter_rows.proofs.ReturnLaws.{spell_count, returns_start}
use Rattle.parameter_rows.proofs.UsualCells.{byte_at}

followed_push : (cs : List (List ℕ)) (c : List ℕ) → followed (cs ++ c ∷ []) ≡ followed cs ++ (c ++ 44 ∷ [])
followed_push [] c = refl
followed_push (d ∷ cs) c = ap (λ (l : List ℕ). d ++ 44 ∷ l) (followed_push cs c) ∙ sym (append_assoc d (44 ∷ followed cs) (c ++ 44 ∷ []))

spliced_push : (cs : List (List ℕ)) (c : List ℕ) → spliced 44 (cs ++ c ∷ []) ≡ followed cs ++ c
spliced_push [] c = refl
spliced_push (d ∷ []) c = sym (append_assoc d (44 ∷ []) c)
spliced_push (d ∷ e ∷ cs) c = ap (λ (l : List ℕ). d ++ 44 ∷ l) (spliced_push (e ∷ cs) c) ∙ sym (append_assoc d (44 ∷ followed (e ∷ cs)) c)

spell_push : (cs : List (List ℕ)) (vs : List ℤ) (c : List ℕ) (v : ℤ) → SpellReturns cs vs → SpellsReturn c v → SpellReturns (cs ++ c ∷ []) (vs ++ v ∷ [])
spell_push [] [] c v h s = (s, tt)
spell_push [] (u ∷ vs) c v h s = absurd h
spell_push (d ∷ cs) [] c v h s = absurd h
spell_push (d ∷ cs) (u ∷ vs) c v h s = (h.0, spell_push cs vs c v h.1 s)

pub followed_none : (xs : List ℕ) → Followed xs xs []
followed_none xs = ([], tt, refl)

module _ (xs rest : List ℕ) (n : ℕ) (row : List ℤ) (i : ℕ) (v : ℤ) (in' : i < length row) (s : SpellsReturn (take n rest) v) where
  pub followed_more : n < length rest → get_or rest n 0 ≡ 44 → Followed xs rest (take i row) → Followed xs (drop (n + 1) rest) (take (i + 1) (set row i v))
  followed_more h e (cs, all, text) =
      let c = take n rest in (
        cs ++ c ∷ [],
        subst (SpellReturns (cs ++ c ∷ [])) (sym (take_more_set row i v in')) (spell_push cs (take i row) c v all s),
        text
            ∙ ap (λ (l : List ℕ). followed cs ++ l) (sym (take-append-drop n rest) ∙ ap (λ (l : List ℕ). c ++ l) (byte_at rest n 44 h e))
            ∙ ap (λ (l : List ℕ). followed cs ++ l) (sym (append_assoc c (44 ∷ []) (drop (n + 1) rest)))
            ∙ sym (append_assoc (followed cs) (c ++ 44 ∷ []) (drop (n + 1) rest))
            ∙ ap (λ (l : List ℕ). l ++ drop (n + 1) rest) (sym (followed_push cs c)),
      )

before : (p text line rest : List ℕ) → Starts text line rest → Starts (p ++ text) (p ++ line) rest
before p text line rest (inl e) = inl (ap (λ (l : List ℕ). p ++ l) e ∙ sym (append_assoc p line (10 ∷ rest)))
before p text line rest (inr (inl e)) = inr (inl (ap (λ (l : List ℕ). p ++ l) e ∙ sym (append_assoc p line (13 ∷ 10 ∷ rest))))
before p text line rest (inr (inr e)) = inr (inr (ap (λ (l : List ℕ). p ++ l) e.0, e.1))

-- the last cell and the line's end: the line is a row of returns
pub read_all : (xs rest after : List ℕ) (n size : ℕ) (vs : List ℤ) (v : ℤ) → length vs + 1 ≡ size → SpellsReturn (take n rest) v → Followed xs rest vs → Ends (drop n rest) after → (returns_cells size (cells (line_of xs)) ≡ Ok (vs ++ v ∷ [])) × (after ≡ after_line xs)
read_all xs rest after n size vs v e s (cs, all, text) (k, ends) =
    let c = take n rest in
    let every : SpellReturns (cs ++ c ∷ []) (vs ++ v ∷ []) = spell_push cs vs c v all s in
    let line = (followed cs ++ c) ++ replicate k 44 in
    let r : Returns size line (vs ++ v ∷ []) =
    (cs ++ c ∷ [], k, spell_count (cs ++ c ∷ []) (vs ++ v ∷ []) every ∙ length-append vs (v ∷ []) ∙ e, ap (λ (l : List ℕ). l ++ replicate k 44) (sym (spliced_push cs c)), every) in
    let t : xs ≡ (followed cs ++ c) ++ drop n rest =
    text ∙ ap (λ (l : List ℕ). followed cs ++ l) (sym (take-append-drop n rest)) ∙ sym (append_assoc (followed cs) c (drop n rest)) in
    let starts : Starts xs line after =
    subst (λ (l : List ℕ). Starts l line after) (sym t) (before (followed cs ++ c) (drop n rest) (replicate k 44) after ends) in
    let done = returns_start size xs line after (vs ++ v ∷ []) (omega arith) r starts in
    (done.0, sym done.1)

-- what follows the first line is found again by its length
pub from_end : (xs after : List ℕ) → after ≡ after_line xs → (length after ≤ length xs) × (drop (length xs - length after) xs ≡ after_line xs)
from_end xs after e =
    let k = prefix_len within_line xs + 1 in
    let short : length after ≤ length xs = omega (arith, ap length e, length-drop k xs) in
    let back : drop (length xs - length (drop k xs)) xs ≡ drop k xs =
    ⊎_elim
    (λ (h : k < length xs). let same : length xs - length (drop k xs) ≡ k = omega (arith, length-drop k xs) in ap (λ (n : ℕ). drop n xs) same)
    (λ (h : length xs ≤ k). drop_all (length xs - length (drop k xs)) xs (omega (arith, length-drop k xs)) ∙ sym (drop_all k xs h))
    (cases_lt k (length xs)) in
    (short, ap (λ (l : List ℕ). drop (length xs - length l) xs) e ∙ back)

-- what a Some has is changed, and None says nothing
pub some_map : {X : Type 0} (o : Option X) (P Q : X → Type 0) → ((x : X) → P x → Q x) → IfSome o P → IfSome o Q
some_map None P Q f h = tt
some_map (Some x) P Q f h = f x h

pub some_both : {X : Type 0} (o : Option X) (P Q R : X → Type 0) → ((x : X) → P x → Q x → R x) → IfSome o P → IfSome o Q → IfSome o R
some_both None P Q R f h k = tt
some_both (Some x) P Q R f h k = f x h k

-- the commas in front
pub commas_run : (xs : List ℕ) → xs ≡ replicate (prefix_len (λ x. eqb x 44) xs) 44 ++ drop (prefix_len (λ x. eqb x 44) xs) xs
commas_run [] = refl
commas_run (x ∷ xs) =
    let k = prefix_len (λ x. eqb x 44) xs in
    elim (eqb x 44) as (λ t. eqb x 44 ≡ t → (x ∷ xs) ≡ replicate (cond t (1 + k) 0) 44 ++ drop (cond t (1 + k) 0) (x ∷ xs)) [
      | true ↦ λ e. let one : 1 + k ≡ suc k = omega arith in rw one (ap (λ y. y ∷ xs) (eqb-true x 44 e) ∙ ap (λ (l : List ℕ). 44 ∷ l) (commas_run xs))
      | false ↦ λ _. refl
    ]
    refl

-- commas, and then the line's end
pub ends_after : (xs rest : List ℕ) (k : ℕ) → k ≡ prefix_len (λ x. eqb x 44) xs → Starts (drop k xs) [] rest → Ends xs rest
ends_after xs rest k e h =
    let run : xs ≡ replicate k 44 ++ drop k xs = subst (λ (n : ℕ). xs ≡ replicate n 44 ++ drop n xs) (sym e) (commas_run xs) in
    let s : Starts (replicate k 44 ++ drop k xs) (replicate k 44 ++ []) rest = before (replicate k 44) (drop k xs) [] rest h in
    (k, subst (λ (l : List ℕ). Starts l (replicate k 44) rest) (sym run) (subst (λ (l : List ℕ). Starts (replicate k 44 ++ drop k xs) l rest) (append-nil (replicate k 44)) s))

-- the last value, written after those before it
pub set_last : (vs us : List ℤ) (v : ℤ) (i : ℕ) → length vs ≡ i → length us ≡ 1 → set (vs ++ us) i v ≡ vs ++ v ∷ []
set_last [] [] v i e l = absurd (omega arith)
set_last [] (u ∷ []) v zero e l = refl
set_last [] (u ∷ []) v (suc i) e l = absurd (omega arith)
set_last [] (u ∷ w ∷ us) v i e l = absurd (omega arith)
set_last (x ∷ vs) us v zero e l = absurd (omega arith)
set_last (x ∷ vs) us v (suc i) e l = ap (λ (m : List ℤ). x ∷ m) (set_last vs us v i (omega arith) l)
