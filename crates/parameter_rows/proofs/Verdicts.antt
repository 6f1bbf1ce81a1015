-- One cell more of a verdict, and the verdict of a whole line. Assumes nothing.
use Rattle.std.proofs.Common.{◌≡◌, ℕ, suc, ◌+◌, ◌-◌, ◌<◌, ◌≤◌, Bool, true, false, ◌&&◌, cond, leb, List, [], ◌∷◌, ◌++◌, length, take, drop, set, ℤ, Some, None, Ok, Err, Option, Result, sym, refl, ap, ◌∙◌, ⊎_elim, arith}
use Rattle.std.proofs.lemmas.List.{take_more_set, length-drop, take-append-drop, length-take-le, append_assoc, take_all, length-append, take_at, drop_at, drop_all}
use Rattle.std.proofs.lemmas.Bool.{cond-true, cond-false, cond_both, leb-true, le-leb, lt-leb, cases_lt}
use Rattle.parameter_text.specs.declared.terms.Question.{Question}
use Rattle.parameter_text.specs.declared.terms.Question.TheVariants.{Cells}
use Rattle.parameter_text.specs.Cuts.{all_empty}
use Rattle.parameter_text.specs.Questions.{question_number, sooner, both}
use Rattle.parameter_rows.specs.Returns.{return_cell, verdict, returns_cells}
use Rattle.parameter_rows.specs.Asking.{sooner_failed, outcome, asked}

-- the first of three questions, however they are grouped

sooner_left : (p q : Question) → question_number p ≤ question_number q → sooner p q ≡ p
sooner_left p q h = cond-true _ p q (le-leb (question_number p) (question_number q) h)

sooner_right : (p q : Question) → question_number q < question_number p → sooner p q ≡ q
sooner_right p q h = cond-false _ p q (lt-leb (question_number p) (question_number q) h)

sooner_below : (p q : Question) → question_number (sooner p q) ≤ question_number q
sooner_below p q = cond_both (leb (question_number p) (question_number q)) p q (λ x. question_number x ≤ question_number q) (λ h. leb-true _ _ h) (λ _. omega arith)

third_first : (o p q : Question) → question_number q < question_number p → sooner o (sooner p q) ≡ sooner (sooner o p) q
third_first o p q h =
    ap (sooner o) (sooner_right p q h)
    ∙ ⊎_elim
    (λ (k : question_number p < question_number o). sooner_right o q (omega arith) ∙ sym (ap (λ x. sooner x q) (sooner_right o p k) ∙ sooner_right p q h))
    (λ (k : question_number o ≤ question_number p). sym (ap (λ x. sooner x q) (sooner_left o p k)))
    (cases_lt (question_number p) (question_number o))

pub sooner_assoc : (o p q : Question) → sooner o (sooner p q) ≡ sooner (sooner o p) q
sooner_assoc o p q =
    ⊎_elim
    (third_first o p q)
    (λ (h : question_number p ≤ question_number q). ap (sooner o) (sooner_left p q h) ∙ sym (sooner_left (sooner o p) q (omega (arith, sooner_below o p))))
    (cases_lt (question_number q) (question_number p))

abbrev prefixed : Result ℤ Question → Result (List ℤ) Question → Result (List ℤ) Question
prefixed r s = both (λ v vs. v ∷ vs) r s

-- a verdict and one cell behind it
abbrev also : Result (List ℤ) Question → Result ℤ Question → Result (List ℤ) Question
also s r = both (λ vs v. vs ++ v ∷ []) s r

prefixed_also : (r : Result ℤ Question) (s : Result (List ℤ) Question) (t : Result ℤ Question) → prefixed r (also s t) ≡ also (prefixed r s) t
prefixed_also (Ok x) (Ok xs) (Ok v) = refl
prefixed_also (Ok x) (Ok xs) (Err q) = refl
prefixed_also (Ok x) (Err p) (Ok v) = refl
prefixed_also (Ok x) (Err p) (Err q) = refl
prefixed_also (Err o) (Ok xs) (Ok v) = refl
prefixed_also (Err o) (Ok xs) (Err q) = refl
prefixed_also (Err o) (Err p) (Ok v) = refl
prefixed_also (Err o) (Err p) (Err q) = ap Err (sooner_assoc o p q)

verdict_push : (cs : List (List ℕ)) (c : List ℕ) → verdict (cs ++ c ∷ []) ≡ also (verdict cs) (return_cell c)
verdict_push [] c = elim (return_cell c) as (λ r. prefixed r (Ok []) ≡ also (Ok []) r) [ Ok v ↦ refl | Err q ↦ refl ]
verdict_push (d ∷ cs) c = ap (prefixed (return_cell d)) (verdict_push cs c) ∙ prefixed_also (return_cell d) (verdict cs) (return_cell c)

-- the first i cells are judged
pub record JudgedTo (before after : List (List ℕ)) (i : ℕ) (failed : Option Question) (vs : List ℤ) : Type 0 where
  pub within : i ≤ length before
  pub rest : after ≡ drop i before
  pub said : verdict (take i before) ≡ outcome failed vs

pub judged_none : (L : List (List ℕ)) → JudgedTo L L 0 None []
judged_none L = record { within = omega arith; rest = refl; said = refl }

drop_step : (L : List (List ℕ)) (i : ℕ) (c : List ℕ) (t : List (List ℕ)) → drop i L ≡ c ∷ t → (t ≡ drop (i + 1) L) × (take (i + 1) L ≡ take i L ++ c ∷ []) × (i < length L)
drop_step L i c t e =
    let one : suc (length t) ≡ length L - i = sym (ap length e) ∙ length-drop i L in
    let whole : L ≡ (take i L ++ c ∷ []) ++ t = sym (take-append-drop i L) ∙ ap (λ (l : List (List ℕ)). take i L ++ l) e ∙ sym (append_assoc (take i L) (c ∷ []) t) in
    let long : length (take i L) ≡ i = length-take-le i L (omega arith) in
    let front : length (take i L ++ c ∷ []) ≡ i + 1 = length-append (take i L) (c ∷ []) ∙ omega (arith, long) in
    (sym (ap (drop (i + 1)) whole ∙ drop_at (take i L ++ c ∷ []) t (i + 1) front), ap (take (i + 1)) whole ∙ take_at (take i L ++ c ∷ []) t (i + 1) front, omega arith)

module _ (L left left' : List (List ℕ)) (i : ℕ) (failed : Option Question) (row : List ℤ) (s : JudgedTo L left i failed (take i row)) where
  pub fewer : left ≡ [] → length L ≤ i
  fewer e = omega (arith, length-drop i L, ap length (sym s.rest ∙ e))

  more : (c : List ℕ) (r : Result ℤ Question) → left ≡ c ∷ left' → r ≡ return_cell c → verdict (take (i + 1) L) ≡ also (outcome failed (take i row)) r
  more c r e j =
      let d = drop_step L i c left' (sym s.rest ∙ e) in
      ap verdict d.1 ∙ verdict_push (take i L) c ∙ ap (λ (v : Result (List ℤ) Question). also v (return_cell c)) s.said ∙ ap (also (outcome failed (take i row))) (sym j)

  pub more_ok : (c : List ℕ) (v : ℤ) → i < length row → left ≡ c ∷ left' → Ok v ≡ return_cell c → JudgedTo L left' (i + 1) failed (take (i + 1) (set row i v))
  more_ok c v in' e j =
      let d = drop_step L i c left' (sym s.rest ∙ e) in
      let also_ok : also (outcome failed (take i row)) (Ok v) ≡ outcome failed (take i row ++ v ∷ []) =
      elim failed as (λ w. also (outcome w (take i row)) (Ok v) ≡ outcome w (take i row ++ v ∷ [])) [ None ↦ refl | Some q ↦ refl ] in
      record { within = omega (arith, d.2); rest = d.0; said = more c (Ok v) e j ∙ also_ok ∙ ap (outcome failed) (sym (take_more_set row i v in')) }

  pub more_err : (c : List ℕ) (q : Question) → left ≡ c ∷ left' → Err q ≡ return_cell c → JudgedTo L left' (i + 1) (Some (sooner_failed failed q)) (take (i + 1) row)
  more_err c q e j =
      let d = drop_step L i c left' (sym s.rest ∙ e) in
      let also_err : also (outcome failed (take i row)) (Err q) ≡ Err (sooner_failed failed q) =
      elim failed as (λ w. also (outcome w (take i row)) (Err q) ≡ Err (sooner_failed w q)) [ None ↦ refl | Some x ↦ refl ] in
      record { within = omega (arith, d.2); rest = d.0; said = more c (Err q) e j ∙ also_err }

and_true : (b : Bool) → (b && true) ≡ b
and_true true = refl
and_true false = refl

and_false : (b : Bool) → (b && false) ≡ false
and_false true = refl
and_false false = refl

-- all cells are judged
pub judged_all : (L left : List (List ℕ)) (i : ℕ) (failed : Option Question) (row : List ℤ) → i ≡ length row → JudgedTo L left i failed (take i row) → (asked (length row) L ≡ outcome failed row) × (left ≡ drop (length row) L)
judged_all L left i failed row e s =
    let all : take i row ≡ row = take_all i row (omega arith) in (
      cond-true (leb (length row) (length L)) _ _ (le-leb (length row) (length L) (omega (arith, s.within))) ∙ ap (λ k. verdict (take k L)) (sym e) ∙ s.said ∙ ap (outcome failed) all,
      s.rest ∙ ap (λ k. drop k L) e,
    )

-- no cell is left for the next value
pub judged_few : (L left : List (List ℕ)) (i : ℕ) (failed : Option Question) (row : List ℤ) → i < length row → left ≡ [] → JudgedTo L left i failed (take i row) → (asked (length row) L ≡ Err Cells) × ([] ≡ drop (length row) L)
judged_few L left i failed row h e s =
    let less : length L ≤ i = fewer L left left i failed row s e in
    (cond-false (leb (length row) (length L)) _ _ (lt-leb (length row) (length L) (omega arith)), sym (drop_all (length row) L (omega arith)))

-- the other cells are empty
pub asked_all : (n : ℕ) (cs : List (List ℕ)) → all_empty (drop n cs) ≡ true → asked n cs ≡ returns_cells n cs
asked_all n cs e = ap (λ b. cond b (verdict (take n cs)) (Err Cells)) (sym (ap (λ b. leb n (length cs) && b) e ∙ and_true (leb n (length cs))))

pub spare_cells : (n : ℕ) (cs : List (List ℕ)) → all_empty (drop n cs) ≡ false → returns_cells n cs ≡ Err Cells
spare_cells n cs e = ap (λ b. cond b (verdict (take n cs)) (Err Cells)) (ap (λ b. leb n (length cs) && b) e ∙ and_false (leb n (length cs)))
