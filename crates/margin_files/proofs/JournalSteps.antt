-- A journal, line by line: no more calls than lines, and no more lines than bytes. Assumes nothing.
use Rattle.std.proofs.Common.{◌≡◌, ℕ, zero, suc, ◌+◌, ◌<◌, ◌≤◌, true, false, eqb, List, [], ◌∷◌, length, Some, None, Ok, Err, Option, is_none, refl, ap, ◌∙◌, arith}
use Rattle.std.proofs.lemmas.List.{length-drop}
use Rattle.std.proofs.lemmas.Bool.Decides.{nat_tests}
use Rattle.std.specs.List.{prefix_len}
use Rattle.parameter_text.specs.Cuts.{within_line, after_line, lines}
use Rattle.parameter_text.proofs.LineLaws.{lines_step}
use Rattle.margin_files.specs.declared.terms.JournalCall.{JournalCall}
use Rattle.margin_files.specs.Journals.{call_of_line, call_before, calls_of, journal_check}

after_line_shorter : (left : List ℕ) → 0 < length left → length (after_line left) < length left
after_line_shorter left h = omega (arith, length-drop (prefix_len within_line left + 1) left)

few_lines : (n : ℕ) (text : List ℕ) → length text ≤ n → length (lines text) ≤ length text
few_lines n [] h = omega arith
few_lines zero (x ∷ text) h = absurd (omega arith)
few_lines (suc n) (x ∷ text) h =
    let shorter : length (after_line (x ∷ text)) < length (x ∷ text) = after_line_shorter (x ∷ text) (omega arith) in
    omega (arith, few_lines n (after_line (x ∷ text)) (omega arith), ap length (lines_step (x ∷ text) (omega arith)))

pub lines_fit : (text : List ℕ) → length (lines text) ≤ length text
lines_fit text = few_lines (length text) text (omega arith)

few_before : (o : Option JournalCall) (calls : List JournalCall) → length (call_before o calls) ≤ length calls + 1
few_before None calls = omega arith
few_before (Some call) calls = omega arith

pub calls_fit : (ls : List (List ℕ)) → length (calls_of ls) ≤ length ls
calls_fit [] = omega arith
calls_fit (l ∷ ls) = omega (arith, few_before (call_of_line l) (calls_of ls), calls_fit ls)

-- the calls counted so far, among all lines and those still to come
pub record Counted (ls left : List (List ℕ)) (count : ℕ) : Type 0 where
  pub calls : count + length (calls_of left) ≡ length (calls_of ls)
  pub all : count + length left ≡ length ls

pub counted_none : (ls : List (List ℕ)) → Counted ls ls 0
counted_none ls = record { calls = omega arith; all = omega arith }

call_more : (o : Option JournalCall) (calls : List JournalCall) → is_none o ≡ false → length (call_before o calls) ≡ length calls + 1
call_more None calls h = absurd (let z : true ≡ false = h in cc)
call_more (Some x) calls h = omega arith

no_call : (o : Option JournalCall) (calls : List JournalCall) → is_none o ≡ true → length (call_before o calls) ≡ 0
no_call None calls h = refl
no_call (Some x) calls h = absurd (let z : false ≡ true = h in cc)

module _ (ls left : List (List ℕ)) (line : List ℕ) (rest : List (List ℕ)) (count : ℕ) (s : Counted ls left count) (e : left ≡ line ∷ rest) where
  one_more : length left ≡ length rest + 1
  one_more = rw e (omega arith)

  pub counted_within : count + 1 ≤ length ls
  counted_within = omega (arith, s.all, one_more)

  pub counted_more : is_none (call_of_line line) ≡ false → Counted ls rest (count + 1)
  counted_more c =
      let more : length (calls_of left) ≡ length (calls_of rest) + 1 = ap (λ (lines : List (List ℕ)). length (calls_of lines)) e ∙ call_more (call_of_line line) (calls_of rest) c in
      let more_lines : length left ≡ length rest + 1 = one_more in
      record { calls = omega (arith, s.calls); all = omega (arith, s.all) }

  pub first_faulty : is_none (call_of_line line) ≡ true → Err (record { line = count + 1 }) ≡ journal_check ls
  first_faulty c =
      let none : length (calls_of left) ≡ 0 = ap (λ (lines : List (List ℕ)). length (calls_of lines)) e ∙ no_call (call_of_line line) (calls_of rest) c in
      let more_lines : length left ≡ length rest + 1 = one_more in
      let here : length (calls_of ls) ≡ count = omega (arith, s.calls) in
      let no : eqb (length (calls_of ls)) (length ls) ≡ false = (let l : length (calls_of ls) < length ls = omega (arith, s.all) in grind (arith, nat_tests)) in
      rw (no, here) refl

pub all_calls : (ls left : List (List ℕ)) (count : ℕ) → Counted ls left count → left ≡ [] → Ok count ≡ journal_check ls
all_calls ls left count s e =
    let calls : count + length (calls_of []) ≡ length (calls_of ls) = rw e at s.calls in
    let all : count + length {A = List ℕ} [] ≡ length ls = rw e at s.all in
    let same : length (calls_of ls) ≡ length ls = omega arith in
    let yes : eqb (length (calls_of ls)) (length ls) ≡ true = grind (arith, nat_tests) in
    let here : length ls ≡ count = omega arith in
    rw (yes, here) refl
