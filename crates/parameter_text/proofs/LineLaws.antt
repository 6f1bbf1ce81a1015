-- The first line of a text, and the lines of what follows it. Assumes nothing.
use Rattle.std.proofs.Common.{◌≡◌, ℕ, suc, ◌+◌, ◌-◌, ◌<◌, ◌≤◌, false, not, eqb, List, [], ◌∷◌, ◌++◌, length, get_or, take, drop, sym, refl, ap, ◌∙◌, inl, inr, ⊎_elim, arith}
use Rattle.std.specs.List.{prefix_len, AllByRecursion as All}
use Rattle.std.proofs.lemmas.List.{append_assoc, append-nil, take_at, drop_at, take_all, drop_all, drop_more, length-append, length-drop}
use Rattle.std.proofs.lemmas.Bool.{cond-true, cond-false, cases_lt}
use Rattle.std.proofs.lemmas.Bool.Decides.{nat_tests}
use Rattle.parameter_text.specs.Cuts.{split, chomped, last_line, ended_lines, lines, ended, within_line, line_of, after_line, Starts}
use Rattle.parameter_text.proofs.CutLaws.{before, split_some, split_front, split_whole, cut_parts, cut_nowhere}

-- what stands at the end of a list, found again by its length
pub drop_back : {X : Type 0} (k : ℕ) (xs : List X) → drop (length xs - length (drop k xs)) xs ≡ drop k xs
drop_back k xs =
    ⊎_elim
    (λ (h : k < length xs). let same : length xs - length (drop k xs) ≡ k = omega (arith, length-drop k xs) in ap (λ (n : ℕ). drop n xs) same)
    (λ (h : length xs ≤ k). drop_all (length xs - length (drop k xs)) xs (omega (arith, length-drop k xs)) ∙ sym (drop_all k xs h))
    (cases_lt k (length xs))

pub chomped_cr : (xs : List ℕ) → 0 < length xs → get_or xs (length xs - 1) 0 ≡ 13 → take (length xs - 1) xs ≡ chomped xs
chomped_cr [] h e = absurd (omega arith)
chomped_cr (x ∷ []) h e = sym (cond-true (eqb x 13) _ _ (grind (arith, nat_tests)))
chomped_cr (x ∷ y ∷ ys) h e =
    let down : suc (suc (length ys)) - 1 ≡ suc (suc (length ys) - 1) = omega arith in
    rw down (ap (λ l. x ∷ l) (chomped_cr (y ∷ ys) (omega arith) (rw down at e)))

pub chomped_same : (xs : List ℕ) → (0 < length xs → get_or xs (length xs - 1) 0 ≡ 13 → ⊥) → xs ≡ chomped xs
chomped_same [] n = refl
chomped_same (x ∷ []) n = sym (cond-false (eqb x 13) _ _ (let m : x ≡ 13 → ⊥ = n (omega arith) in grind (arith, nat_tests)))
chomped_same (x ∷ y ∷ ys) n =
    let down : suc (suc (length ys)) - 1 ≡ suc (suc (length ys) - 1) = omega arith in
    ap (λ l. x ∷ l) (chomped_same (y ∷ ys) (λ _. (rw down at n) (omega arith)))

ended_more : (l ys : List ℕ) → ended_lines (l ∷ split 10 ys) ≡ chomped l ∷ ended_lines (split 10 ys)
ended_more l ys = let s = split_some 10 ys in rw s.2 refl

last_some : (l : List ℕ) → 0 < length l → last_line l ≡ l ∷ []
last_some [] h = absurd (omega arith)
last_some (x ∷ l) h = refl

-- the first line as its cut finds it
pub first_cut : (xs line rest : List ℕ) → split 10 xs ≡ line ∷ split 10 rest → (chomped line ≡ line_of xs) × (rest ≡ after_line xs) × (lines xs ≡ chomped line ∷ lines rest)
first_cut xs line rest e =
    let n = before 10 xs in
    let p = cut_parts 10 xs line rest e in
    let back : drop n xs ≡ get_or xs n 0 ∷ drop (n + 1) xs = drop_more xs n 0 p.0 in (
      ap chomped p.1 ∙ sym (ap (ended (take n xs)) back),
      p.2,
      ap ended_lines e ∙ ended_more line rest,
    )

-- a text without an end is a line
pub first_whole : (xs : List ℕ) → 0 < length xs → split 10 xs ≡ xs ∷ [] → (xs ≡ line_of xs) × ([] ≡ after_line xs) × (lines xs ≡ xs ∷ [])
first_whole xs some e =
    let n = before 10 xs in
    let h : length xs ≤ n = cut_nowhere 10 xs xs e in (
      sym (ap (ended (take n xs)) (drop_all n xs h) ∙ take_all n xs h),
      sym (drop_all (n + 1) xs (omega arith)),
      ap ended_lines e ∙ last_some xs some,
    )

-- a text that is not empty has a first line, and then the lines of what follows it
pub lines_step : (xs : List ℕ) → 0 < length xs → lines xs ≡ line_of xs ∷ lines (after_line xs)
lines_step xs some =
    ⊎_elim
    (λ (h : before 10 xs < length xs). let c = first_cut xs _ (after_line xs) (split_front 10 xs h) in c.2 ∙ ap (λ (l : List ℕ). l ∷ lines (after_line xs)) c.0)
    (λ (h : length xs ≤ before 10 xs). let c = first_whole xs some (split_whole 10 xs h) in c.2 ∙ ap (λ (l : List ℕ). l ∷ []) c.0 ∙ ap (λ (l : List ℕ). line_of xs ∷ lines l) c.1)
    (cases_lt (before 10 xs) (length xs))

-- a line without CR and LF, and what follows it

abbrev pub Inside : ℕ → Type 0
Inside b = 14 ≤ b

run_of_line : (line t : List ℕ) → All Inside line → prefix_len within_line t ≡ 0 → prefix_len within_line (line ++ t) ≡ length line
run_of_line [] t h e = e
run_of_line (x ∷ line) t h e =
    let no : eqb x 10 ≡ false = grind (arith, nat_tests) in
    cond-true (not (eqb x 10)) _ _ (ap not no) ∙ omega (arith, run_of_line line t h.1 e)

run_to_cr : (line t : List ℕ) → All Inside line → prefix_len within_line (line ++ 13 ∷ 10 ∷ t) ≡ length line + 1
run_to_cr [] t h = refl
run_to_cr (x ∷ line) t h =
    let no : eqb x 10 ≡ false = grind (arith, nat_tests) in
    cond-true (not (eqb x 10)) _ _ (ap not no) ∙ omega (arith, run_to_cr line t h.1)

inside_same : (line : List ℕ) → All Inside line → chomped line ≡ line
inside_same [] h = refl
inside_same (x ∷ []) h = let no : eqb x 13 ≡ false = grind (arith, nat_tests) in cond-false (eqb x 13) _ _ no
inside_same (x ∷ y ∷ ys) h = ap (λ (l : List ℕ). x ∷ l) (inside_same (y ∷ ys) h.1)

inside_cr : (line : List ℕ) → All Inside line → chomped (line ++ 13 ∷ []) ≡ line
inside_cr [] h = refl
inside_cr (x ∷ []) h = refl
inside_cr (x ∷ y ∷ ys) h = ap (λ (l : List ℕ). x ∷ l) (inside_cr (y ∷ ys) h.1)

module _ (line rest : List ℕ) (h : All Inside line) where
  at_lf : (line_of (line ++ 10 ∷ rest) ≡ line) × (after_line (line ++ 10 ∷ rest) ≡ rest)
  at_lf =
      let n = run_of_line line (10 ∷ rest) h refl in
      let front : take (prefix_len within_line (line ++ 10 ∷ rest)) (line ++ 10 ∷ rest) ≡ line = take_at line (10 ∷ rest) _ (sym n) in
      let back : drop (prefix_len within_line (line ++ 10 ∷ rest)) (line ++ 10 ∷ rest) ≡ 10 ∷ rest = drop_at line (10 ∷ rest) _ (sym n) in (
        ap (λ (l : List ℕ). ended l (drop (prefix_len within_line (line ++ 10 ∷ rest)) (line ++ 10 ∷ rest))) front ∙ ap (ended line) back ∙ inside_same line h,
        ap (λ (l : List ℕ). drop (prefix_len within_line (line ++ 10 ∷ rest) + 1) l) (sym (append_assoc line (10 ∷ []) rest)) ∙ drop_at (line ++ 10 ∷ []) rest _ (omega (arith, n, length-append line (10 ∷ []))),
      )

  at_cr : (line_of (line ++ 13 ∷ 10 ∷ rest) ≡ line) × (after_line (line ++ 13 ∷ 10 ∷ rest) ≡ rest)
  at_cr =
      let xs = line ++ 13 ∷ 10 ∷ rest in
      let n = run_to_cr line rest h in
      let same : xs ≡ (line ++ 13 ∷ []) ++ 10 ∷ rest = sym (append_assoc line (13 ∷ []) (10 ∷ rest)) in
      let all : xs ≡ (line ++ 13 ∷ 10 ∷ []) ++ rest = sym (append_assoc line (13 ∷ 10 ∷ []) rest) in
      let front : take (prefix_len within_line xs) xs ≡ line ++ 13 ∷ [] = ap (take (prefix_len within_line xs)) same ∙ take_at (line ++ 13 ∷ []) (10 ∷ rest) _ (omega (arith, n, length-append line (13 ∷ []))) in
      let back : drop (prefix_len within_line xs) xs ≡ 10 ∷ rest = ap (drop (prefix_len within_line xs)) same ∙ drop_at (line ++ 13 ∷ []) (10 ∷ rest) _ (omega (arith, n, length-append line (13 ∷ []))) in (
        ap (λ (l : List ℕ). ended l (drop (prefix_len within_line xs) xs)) front ∙ ap (ended (line ++ 13 ∷ [])) back ∙ inside_cr line h,
        ap (drop (prefix_len within_line xs + 1)) all ∙ drop_at (line ++ 13 ∷ 10 ∷ []) rest _ (omega (arith, n, length-append line (13 ∷ 10 ∷ []))),
      )

  at_end : (line_of line ≡ line) × (after_line line ≡ [])
  at_end =
      let n : prefix_len within_line line ≡ length line = ap (prefix_len within_line) (sym (append-nil line)) ∙ run_of_line line [] h refl in (
        ap (λ (l : List ℕ). ended l (drop (prefix_len within_line line) line)) (take_all (prefix_len within_line line) line (omega (arith, n))) ∙ ap (ended line) (drop_all (prefix_len within_line line) line (omega (arith, n))),
        drop_all (prefix_len within_line line + 1) line (omega (arith, n)),
      )

  pub starts_with : (text : List ℕ) → Starts text line rest → (line_of text ≡ line) × (after_line text ≡ rest)
  starts_with text (inl e) = (ap line_of e ∙ at_lf.0, ap after_line e ∙ at_lf.1)
  starts_with text (inr (inl e)) = (ap line_of e ∙ at_cr.0, ap after_line e ∙ at_cr.1)
  starts_with text (inr (inr e)) = (ap line_of e.0 ∙ at_end.0, ap after_line e.0 ∙ at_end.1 ∙ sym e.1)
