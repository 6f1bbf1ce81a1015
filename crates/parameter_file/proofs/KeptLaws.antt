-- Returns kept one row after the other, and where the next line starts. Assumes nothing.
use Rattle.std.proofs.Common.{◌≡◌, ℕ, ◌+◌, ◌≤◌, true, false, cond, eqb, List, [], ◌∷◌, ◌++◌, length, take, drop, ℤ, IfOk, Ok, Err, Result, sym, ap, ◌∙◌, arith}
use Rattle.std.specs.List.{prefix_len}
use Rattle.std.proofs.lemmas.List.{append_assoc, length-append, length-drop, length-take, take_at}
use Rattle.std.proofs.lemmas.List.Sums.{prefix_len-le-length}
use Rattle.parameter_text.specs.declared.terms.Question.{Question}
use Rattle.parameter_text.specs.Cuts.{cells, chomped, ended, within_line, line_of, after_line}
use Rattle.parameter_rows.specs.Returns.{returns_cells, Agrees}
use Rattle.parameter_rows.proofs.ReturnLaws.{returns_long}
use Rattle.parameter_file.specs.Table.{KeptReturns}

chomped_shorter : (xs : List ℕ) → length (chomped xs) ≤ length xs
chomped_shorter [] = omega arith
chomped_shorter (x ∷ []) = elim (eqb x 13) as (λ t. length (cond t [] (x ∷ [])) ≤ 1) [ true ↦ omega arith | false ↦ omega arith ]
chomped_shorter (x ∷ y ∷ ys) = omega (arith, chomped_shorter (y ∷ ys))

ended_shorter : (xs rest : List ℕ) → length (ended xs rest) ≤ length xs
ended_shorter xs [] = omega arith
ended_shorter xs (r ∷ rest) = chomped_shorter xs

-- a line ends where the next one starts
pub line_within : (text : List ℕ) (next : ℕ) → next ≤ length text → drop next text ≡ after_line text → length (line_of text) ≤ next
line_within text next h e =
    let n = prefix_len within_line text in
    let short = ended_shorter (take n text) (drop n text) in
    let le = prefix_len-le-length within_line text in
    omega (arith, ap length e, length-drop next text, length-drop (n + 1) text, short, length-take n text, le)

pub kept_after : (K R post T S : List ℤ) (m start n : ℕ) → m ≡ start + n → length K ≡ start → take start S ≡ K → length R ≡ n → take m ((take start S ++ (R ++ post)) ++ T) ≡ K ++ R
kept_after K R post T S m start n e l f r =
    let size : length (K ++ R) ≡ m = length-append K R ∙ omega arith in
    let all : (take start S ++ (R ++ post)) ++ T ≡ (K ++ R) ++ (post ++ T) = ap (λ (x : List ℤ). (x ++ (R ++ post)) ++ T) f ∙ ap (λ (x : List ℤ). x ++ T) (sym (append_assoc K R post)) ∙ append_assoc (K ++ R) post T in
    ap (take m) all ∙ take_at (K ++ R) (post ++ T) m size

pub kept_returns : (n : ℕ) (text : List ℕ) (before after row : List ℤ) (r : Result ℕ Question) → 1 ≤ n → Agrees (returns_cells n (cells (line_of text))) r row → IfOk r (λ next. (drop next text ≡ after_line text) × (next ≤ length text)) → after ≡ before ++ row → KeptReturns n text before after r
kept_returns n text before after row (Ok next) some j t k =
    let long = returns_long n (line_of text) row j some in
    let line = line_within text next t.1 t.0 in
    (row, record { said = j; kept = k; within = t.1; rest = t.0; long = omega arith })
kept_returns n text before after row (Err q) some j t k = j
