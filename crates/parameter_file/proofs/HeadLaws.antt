-- The head of a row in front of a text. Assumes nothing.
use Rattle.std.proofs.Common.{◌≡◌, ℕ, ◌+◌, ◌≤◌, false, not, eqb, List, [], ◌∷◌, ◌++◌, length, take, drop, ℤ, Some, None, Ok, Err, Option, Result, true, cond, sym, refl, ap, ◌∙◌, arith}
use Rattle.std.specs.List.{prefix_len, AllByRecursion as All}
use Rattle.std.proofs.Math.Seq.{take-append-add, drop-append-add}
use Rattle.std.proofs.lemmas.List.{append_assoc, length-append, length-drop, drop-drop, drop_at, take-append-drop}
use Rattle.std.proofs.ByRecursion.{All-append, All-weaker}
use Rattle.std.proofs.lemmas.Bool.{cond-true, cond-false}
use Rattle.std.proofs.lemmas.Bool.Decides.{nat_tests}
use Rattle.parameter_text.specs.declared.terms.Question.{Question}
use Rattle.parameter_text.specs.Questions.{both, and_then, seen_as}
use Rattle.parameter_text.specs.Digits.{Digit}
use Rattle.return_source.specs.declared.terms.Parameters.{Parameters}
use Rattle.file_rules.specs.declared.terms.FieldType.{FieldType}
use Rattle.parameter_file.specs.declared.terms.FoundCells.{FoundCells}
use Rattle.file_rules.specs.Rows.{Content}
use Rattle.file_rules.specs.Judged.{field_of, content, row_head, with_stock, row_of, row_cells, row_line}
use Rattle.parameter_file.specs.Table.{HeadText, Headed, HeadOf, HeadRead, ReadCells, ReadRow}
use Rattle.parameter_text.specs.Cuts.{split, cells, spliced, chomped, ended, within_line, line_of, after_line}
use Rattle.parameter_text.specs.Integers.{integer, stock_cell}
use Rattle.parameter_text.proofs.CutLaws.{Apart, split_cut, split_some, spliced_split}
use Rattle.parameter_text.proofs.DigitLaws.{ok_same, ok_not_err}
use Rattle.parameter_text.proofs.LineLaws.{Inside}
use Rattle.parameter_text.proofs.IntegerLaws.{passes_writes, passes_stock}

-- two things judged side by side, the second seen as something else
pub both_as : {X Y Z W : Type 0} (f : X → Y → W) (g : Z → Y) (r : Result X Question) (s : Result Z Question) → both f r (seen_as g s) ≡ both (λ (x : X) (z : Z). f x (g z)) r s
both_as f g (Ok x) (Ok z) = refl
both_as f g (Ok x) (Err q) = refl
both_as f g (Err p) (Ok z) = refl
both_as f g (Err p) (Err q) = refl

-- both passed
pub both_passed : {X Y : Type 0} (r : Result X Question) (s : Result Y Question) (p : X × Y) → Ok p ≡ both (λ (a : X) (b : Y). (a, b)) r s → (r ≡ Ok p.0) × (s ≡ Ok p.1)
both_passed {X = X} {Y = Y} (Ok a) (Ok b) p e = let same = ok_same _ _ e in (ap (λ (q : X × Y). Ok q.0) (sym same), ap (λ (q : X × Y). Ok q.1) (sym same))
both_passed (Ok a) (Err q) p e = absurd (ok_not_err _ _ (sym e))
both_passed (Err q) (Ok b) p e = absurd (ok_not_err _ _ (sym e))
both_passed (Err q) (Err o) p e = absurd (ok_not_err _ _ (sym e))

-- a cell that names a kind of row writes a number
pub field_number : (r : Result ℕ Question) (x : Result FieldType Question) (t : FieldType) → x ≡ seen_as field_of r → x ≡ Ok t → (k : ℕ) × (r ≡ Ok k) × (field_of k ≡ t)
field_number (Ok k) x t e h = (k, refl, ok_same _ _ (sym e ∙ h))
field_number (Err q) x t e h = absurd (ok_not_err _ _ (sym e ∙ h))

-- two cells and a third one

pub cut_parts : (xs c d rest : List ℕ) (l m : List (List ℕ)) → cells xs ≡ c ∷ l → l ≡ d ∷ m → m ≡ split 44 rest → xs ≡ c ++ 44 ∷ (d ++ 44 ∷ rest)
cut_parts xs c d rest l m e f g =
    let s = split_some 44 rest in
    let all : cells xs ≡ c ∷ d ∷ s.0 ∷ s.1 = e ∙ ap (λ (k : List (List ℕ)). c ∷ k) (f ∙ ap (λ (k : List (List ℕ)). d ∷ k) (g ∙ s.2)) in
    spliced_split 44 xs ∙ ap (spliced 44) all ∙ ap (λ (x : List ℕ). c ++ 44 ∷ (d ++ 44 ∷ x)) (sym (spliced_split 44 rest ∙ ap (spliced 44) s.2))

pub cut_size : (xs c d rest : List ℕ) → xs ≡ c ++ 44 ∷ (d ++ 44 ∷ rest) → length xs ≡ length c + length d + 2 + length rest
cut_size xs c d rest e = omega (arith, ap length e, length-append c (44 ∷ (d ++ 44 ∷ rest)), length-append d (44 ∷ rest))

pub headed : (text c d r : List ℕ) (s k n : ℕ) (t : FieldType) → text ≡ c ++ 44 ∷ (d ++ 44 ∷ r) → n ≡ length c + length d + 2 → stock_cell c ≡ Ok s → integer 1 7 d ≡ Ok k → field_of k ≡ t → Headed text s t n
headed text c d r s k n t e size a b f =
    let front = c ++ 44 ∷ (d ++ 44 ∷ []) in
    let long : length front ≡ n = omega (arith, length-append c (44 ∷ (d ++ 44 ∷ [])), length-append d (44 ∷ []), size) in
    let whole : text ≡ front ++ r = e ∙ ap (λ (x : List ℕ). c ++ 44 ∷ x) (sym (append_assoc d (44 ∷ []) r)) ∙ sym (append_assoc c (44 ∷ (d ++ 44 ∷ [])) r) in
    let back : drop n text ≡ r = ap (drop n) whole ∙ drop_at front r n long in
    (c, d, k, record { within = omega (arith, cut_size text c d r e); parts = e ∙ ap (λ (x : List ℕ). c ++ 44 ∷ (d ++ 44 ∷ x)) (sym back); stock = a; number = b; kind = f })

-- a text begins with its line

chomped_begins : (xs : List ℕ) → (after : List ℕ) × (xs ≡ chomped xs ++ after)
chomped_begins [] = ([], refl)
chomped_begins (x ∷ []) = elim (eqb x 13) as (λ t. (after : List ℕ) × (x ∷ [] ≡ cond t [] (x ∷ []) ++ after)) [ true ↦ (x ∷ [], refl) | false ↦ ([], refl) ]
chomped_begins (x ∷ y ∷ ys) = let r = chomped_begins (y ∷ ys) in (r.0, ap (λ (l : List ℕ). x ∷ l) r.1)

ended_begins : (xs rest : List ℕ) → (after : List ℕ) × (xs ++ rest ≡ ended xs rest ++ after)
ended_begins xs [] = ([], refl)
ended_begins xs (r ∷ rest) =
    let c = chomped_begins xs in
    (c.0 ++ r ∷ rest, ap (λ (l : List ℕ). l ++ r ∷ rest) c.1 ∙ append_assoc (chomped xs) c.0 (r ∷ rest))

line_begins : (text : List ℕ) → (after : List ℕ) × (text ≡ line_of text ++ after)
line_begins text =
    let n = prefix_len within_line text in
    let b = ended_begins (take n text) (drop n text) in
    (b.0, sym (take-append-drop n text) ∙ b.1)

-- what begins its line begins the text
pub begun : (text c d rest : List ℕ) → line_of text ≡ c ++ 44 ∷ (d ++ 44 ∷ rest) → (r : List ℕ) × (text ≡ c ++ 44 ∷ (d ++ 44 ∷ r))
begun text c d rest e =
    let b = line_begins text in
    (rest ++ b.0, b.1 ∙ ap (λ (l : List ℕ). l ++ b.0) e ∙ append_assoc c (44 ∷ (d ++ 44 ∷ rest)) b.0 ∙ ap (λ (l : List ℕ). c ++ 44 ∷ l) (append_assoc d (44 ∷ rest) b.0))

-- the head of a text's line is the head of the text
pub line_head : (text : List ℕ) (s : ℕ) (t : FieldType) (o : Option ℕ) → HeadOf (line_of text) s t o → HeadRead text s t o
line_head text s t None h = h
line_head text s t (Some n) h =
    let b = begun text h.0 h.1 (drop n (line_of text)) h.3.parts in
    let size : n ≡ length h.0 + length h.1 + 2 = omega (arith, cut_size (line_of text) h.0 h.1 (drop n (line_of text)) h.3.parts, length-drop n (line_of text), h.3.within) in
    headed text h.0 h.1 b.0 s h.2 n t b.1 size h.3.stock h.3.number h.3.kind

-- the line of a text whose head has neither CR nor LF

run_on : (xs t : List ℕ) → All Inside xs → prefix_len within_line (xs ++ t) ≡ length xs + prefix_len within_line t
run_on [] t h = omega arith
run_on (x ∷ xs) t h =
    let no : eqb x 10 ≡ false = grind (arith, nat_tests) in
    cond-true (not (eqb x 10)) _ _ (ap not no) ∙ omega (arith, run_on xs t h.1)

chomped_front : (xs ys : List ℕ) → All Inside xs → chomped (xs ++ ys) ≡ xs ++ chomped ys
chomped_front [] ys h = refl
chomped_front (x ∷ []) [] h = let no : eqb x 13 ≡ false = grind (arith, nat_tests) in cond-false (eqb x 13) _ _ no
chomped_front (x ∷ []) (y ∷ ys) h = refl
chomped_front (x ∷ z ∷ xs) ys h = ap (λ (l : List ℕ). x ∷ l) (chomped_front (z ∷ xs) ys h.1)

ended_front : (xs ys rest : List ℕ) → All Inside xs → ended (xs ++ ys) rest ≡ xs ++ ended ys rest
ended_front xs ys [] h = refl
ended_front xs ys (r ∷ rest) h = chomped_front xs ys h

pub line_front : (xs ys : List ℕ) → All Inside xs → line_of (xs ++ ys) ≡ xs ++ line_of ys
line_front xs ys h =
    let n = prefix_len within_line ys in
    ap (λ (k : ℕ). ended (take k (xs ++ ys)) (drop k (xs ++ ys))) (run_on xs ys h)
    ∙ ap (λ (l : List ℕ). ended l (drop (length xs + n) (xs ++ ys))) (take-append-add xs ys n)
    ∙ ap (ended (xs ++ take n ys)) (drop-append-add xs ys n)
    ∙ ended_front xs (take n ys) (drop n ys) h

pub after_front : (xs ys : List ℕ) → All Inside xs → after_line (xs ++ ys) ≡ after_line ys
after_front xs ys h =
    let n = prefix_len within_line ys in
    let same : length xs + n + 1 ≡ length xs + (n + 1) = omega arith in
    ap (λ (k : ℕ). drop (k + 1) (xs ++ ys)) (run_on xs ys h) ∙ ap (λ (k : ℕ). drop k (xs ++ ys)) same ∙ drop-append-add xs ys (n + 1)

-- a cell of digits has no comma, CR or LF

digit_inside : (x : ℕ) → Digit x → Inside x
digit_inside x h = omega arith

digit_apart : (x : ℕ) → Digit x → x ≡ 44 → ⊥
digit_apart x h e = omega arith

pub stock_plain : (c : List ℕ) (s : ℕ) → stock_cell c ≡ Ok s → All Inside c × Apart 44 c
stock_plain c s e =
    let d = (passes_stock c s e).number_of.digits in
    (All-weaker Digit Inside digit_inside c d, All-weaker Digit (λ x. x ≡ 44 → ⊥) digit_apart c d)

pub number_plain : (low high : ℕ) (c : List ℕ) (n : ℕ) → integer low high c ≡ Ok n → All Inside c × Apart 44 c
number_plain low high c n e =
    let d = (passes_writes low high c n e).digits in
    (All-weaker Digit Inside digit_inside c d, All-weaker Digit (λ x. x ≡ 44 → ⊥) digit_apart c d)

-- the row whose head stands in front
module _ (p : Parameters) (text : List ℕ) (s : ℕ) (t : FieldType) (n : ℕ) (c d : List ℕ) (k : ℕ) (h : HeadText text s t n c d k) where
  abbrev rest : List ℕ
  rest = drop n text

  front : List ℕ
  front = c ++ 44 ∷ (d ++ 44 ∷ [])

  whole : text ≡ front ++ rest
  unfolding front
  whole = h.parts ∙ ap (λ (l : List ℕ). c ++ 44 ∷ l) (sym (append_assoc d (44 ∷ []) rest)) ∙ sym (append_assoc c (44 ∷ (d ++ 44 ∷ [])) rest)

  inside : All Inside front
  unfolding front
  inside = All-append Inside c _ (stock_plain c s h.stock).0 (omega arith, All-append Inside d _ (number_plain 1 7 d k h.number).0 (omega arith, tt))

  again : (l : List ℕ) → front ++ l ≡ c ++ 44 ∷ (d ++ 44 ∷ l)
  unfolding front
  again l = append_assoc c (44 ∷ (d ++ 44 ∷ [])) l ∙ ap (λ (x : List ℕ). c ++ 44 ∷ x) (append_assoc d (44 ∷ []) l)

  cut : cells (line_of text) ≡ c ∷ d ∷ cells (line_of rest)
  cut =
      ap (λ (l : List ℕ). cells (line_of l)) whole
      ∙ ap cells (line_front front rest inside ∙ again (line_of rest))
      ∙ split_cut 44 c _ (stock_plain c s h.stock).1
      ∙ ap (λ (l : List (List ℕ)). c ∷ l) (split_cut 44 d (line_of rest) (number_plain 1 7 d k h.number).1)

  head : row_head c d ≡ Ok (s, t)
  head =
      ap (λ (x : Result ℕ Question). both (λ (i j : ℕ). (i, field_of j)) x (integer 1 7 d)) h.stock
      ∙ ap (λ (x : Result ℕ Question). both (λ (i j : ℕ). (i, field_of j)) (Ok s) x) h.number
      ∙ ap (λ (x : FieldType). Ok (s, x)) h.kind

  pub head_row : row_line p (line_of text) ≡ seen_as (λ (x : Content). with_stock s x) (content p t (cells (line_of rest)))
  head_row = ap (row_cells p) cut ∙ ap (λ (x : Result (ℕ × FieldType) Question). and_then x (row_of p (cells (line_of rest)))) head

  pub head_after : after_line text ≡ after_line rest
  head_after = ap after_line whole ∙ after_front front rest inside

  pub head_size : 2 ≤ n
  head_size = omega (arith, ap length h.parts, length-append c (44 ∷ (d ++ 44 ∷ rest)), length-append d (44 ∷ rest), length-drop n text, h.within)

  -- the cells after it were read
  pub head_read : (before after : List ℤ) (r : Result FoundCells Question) → ReadCells (content p t (cells (line_of rest))) rest before after r → ReadRow p text before after (seen_as (λ (x : FoundCells). record { stock = s; found = x.found; next = n + x.next }) r)
  head_read before after (Ok r) (vs, e) = (
    vs,
    record {
      said = head_row ∙ ap (seen_as (λ (x : Content). with_stock s x)) e.said;
      kept = e.kept;
      within = omega (arith, e.within, length-drop n text, h.within);
      rest = sym (drop-drop r.next n text) ∙ e.rest ∙ sym head_after;
      long = omega (arith, e.long, head_size);
    },
  )
  head_read before after (Err q) e = head_row ∙ ap (seen_as (λ (x : Content). with_stock s x)) e
