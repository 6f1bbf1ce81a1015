-- The titles pass exactly where they are two names and the numbers from 1 on. Assumes nothing.
use Rattle.std.proofs.Common.{◌≡◌, ℕ, zero, suc, ◌+◌, ◌<◌, true, List, [], ◌∷◌, length, get_or, Ok, Err, Result, sym, refl, ap, ◌∙◌, subst, arith}
use Rattle.std.specs.List.{AllByRecursion as All}
use Rattle.std.proofs.ByRecursion.{All-weaker}
use Rattle.std.proofs.lemmas.List.{append-nil}
use Rattle.std.proofs.lemmas.Bool.{cond-true, and_parts, and_from, eqb-true, eq-eqb, false≢true}
use Rattle.parameter_text.specs.declared.terms.Question.{Question}
use Rattle.parameter_text.specs.declared.terms.Question.TheVariants.{Presence, Name}
use Rattle.parameter_text.specs.Digits.{Digit}
use Rattle.parameter_text.specs.Cuts.{split, cells, spliced}
use Rattle.parameter_text.specs.Integers.{WritesStock, stock_cell}
use Rattle.parameter_text.proofs.CutLaws.{Apart, split_spliced, spliced_split}
use Rattle.parameter_text.proofs.DigitLaws.{ok_cond, ok_same, ok_not_err}
use Rattle.parameter_text.proofs.IntegerLaws.{passes_stock, stock_passes}
use Rattle.parameter_heading.specs.Lines.{fault_at, same_text}
use Rattle.parameter_heading.specs.Names.{instrument_id_name, field_type_name}
use Rattle.parameter_heading.specs.Headings.{counts_as, numbered, titled, titles}
use Rattle.parameter_heading.specs.Laid.{Titles}
use Rattle.parameter_heading.proofs.GivenLines.{same_fact, same_self, name_apart}

-- numbers in their order

counts_fact : (k : ℕ) (r : Result ℕ Question) → counts_as k r ≡ true → r ≡ Ok k
counts_fact k (Ok n) h = ap Ok (eqb-true n k h)
counts_fact k (Err q) h = absurd (false≢true h)

counts_true : (k : ℕ) (r : Result ℕ Question) → r ≡ Ok k → counts_as k r ≡ true
counts_true k r h = ap (counts_as k) h ∙ eq-eqb k k refl

-- the cells from k on
abbrev From : ℕ → ℕ → List (List ℕ) → Type 0
From k n cs = (length cs ≡ n) × ((i : ℕ) → i < n → WritesStock (get_or cs i []) (k + i))

from_more : (k n : ℕ) (c : List ℕ) (cs : List (List ℕ)) → WritesStock c k → ((j : ℕ) → j < n → WritesStock (get_or cs j []) (k + 1 + j)) → (i : ℕ) → i < suc n → WritesStock (get_or (c ∷ cs) i []) (k + i)
from_more k n c cs a m zero l = let e : k ≡ k + 0 = omega arith in subst (WritesStock c) e a
from_more k n c cs a m (suc i) l = let e : k + 1 + i ≡ k + suc i = omega arith in subst (WritesStock (get_or cs i [])) e (m i (omega arith))

numbered_fact : (k n : ℕ) (cs : List (List ℕ)) → numbered k n cs ≡ true → From k n cs
numbered_fact k zero [] h = (refl, λ i l. absurd (omega arith))
numbered_fact k zero (c ∷ cs) h = absurd (false≢true h)
numbered_fact k (suc n) [] h = absurd (false≢true h)
numbered_fact k (suc n) (c ∷ cs) h =
    let p = and_parts (counts_as k (stock_cell c)) (numbered (k + 1) n cs) h in
    let more = numbered_fact (k + 1) n cs p.1 in
    (ap suc more.0, from_more k n c cs (passes_stock c k (counts_fact k (stock_cell c) p.0)) more.1)

numbered_true : (k n : ℕ) (cs : List (List ℕ)) → From k n cs → numbered k n cs ≡ true
numbered_true k zero [] f = refl
numbered_true k zero (c ∷ cs) f = absurd (omega (arith, f.0))
numbered_true k (suc n) [] f = absurd (omega (arith, f.0))
numbered_true k (suc n) (c ∷ cs) f =
    let e : k + 0 ≡ k = omega arith in
    let here : WritesStock c k = subst (WritesStock c) e (f.1 0 (omega arith)) in
    let step : (i : ℕ) → k + suc i ≡ k + 1 + i = λ i. omega arith in
    let more : From (k + 1) n cs = (omega (arith, f.0), λ i l. subst (WritesStock (get_or cs i [])) (step i) (f.1 (suc i) (omega arith))) in
    and_from (counts_as k (stock_cell c)) (numbered (k + 1) n cs) (counts_true k (stock_cell c) (stock_passes c k here)) (numbered_true (k + 1) n cs more)

-- a number has no comma

digit_apart : (x : ℕ) → Digit x → x ≡ 44 → ⊥
digit_apart x h e = omega arith

cells_apart : (k : ℕ) (cs : List (List ℕ)) → ((i : ℕ) → i < length cs → WritesStock (get_or cs i []) (k + i)) → All (Apart 44) cs
cells_apart k [] f = tt
cells_apart k (c ∷ cs) f =
    let step : (i : ℕ) → k + suc i ≡ k + 1 + i = λ i. omega arith in (
      All-weaker Digit (λ x. x ≡ 44 → ⊥) digit_apart c (f 0 (omega arith)).number_of.digits,
      cells_apart (k + 1) cs (λ i l. subst (WritesStock (get_or cs i [])) (step i) (f (suc i) (omega arith))),
    )

-- the line

titled_fact : (n : ℕ) (cs : List (List ℕ)) → titled n cs ≡ true → (numbers : List (List ℕ)) × (cs ≡ instrument_id_name ∷ field_type_name ∷ numbers) × (numbered 1 n numbers ≡ true)
titled_fact n [] h = absurd (false≢true h)
titled_fact n (c ∷ []) h = absurd (false≢true h)
titled_fact n (c ∷ d ∷ cs) h =
    let p = and_parts (same_text c instrument_id_name) _ h in
    let q = and_parts (same_text d field_type_name) _ p.1 in
    (cs, ap (λ (x : List ℕ). x ∷ d ∷ cs) (same_fact c instrument_id_name p.0) ∙ ap (λ (x : List ℕ). instrument_id_name ∷ x ∷ cs) (same_fact d field_type_name q.0), q.1)

from_one : (n : ℕ) (line : List ℕ) (numbers : List (List ℕ)) → cells line ≡ instrument_id_name ∷ field_type_name ∷ numbers → From 1 n numbers → Titles line n numbers
from_one n line numbers e f =
    let step : (i : ℕ) → 1 + i ≡ i + 1 = λ i. omega arith in
    record { text = spliced_split 44 line ∙ ap (spliced 44) e; many = f.0; each = λ i l. subst (WritesStock (get_or numbers i [])) (step i) (f.1 i l) }

pub titles_parts : (n : ℕ) (ls rest : List (List ℕ)) → titles n ls ≡ Ok rest → (line : List ℕ) × (numbers : List (List ℕ)) × (ls ≡ line ∷ rest) × Titles line n numbers
titles_parts n [] rest h = absurd (ok_not_err rest (fault_at 13 Presence) h)
titles_parts n (l ∷ ls) rest h =
    let p = ok_cond (titled n (cells l)) (Ok ls) (fault_at 13 Name) rest h in
    let t = titled_fact n (cells l) p.0 in
    (l, t.0, ap (λ (m : List (List ℕ)). l ∷ m) (ok_same ls rest p.1), from_one n l t.0 t.1 (numbered_fact 1 n t.0 t.2))

titled_true : (n : ℕ) (numbers : List (List ℕ)) → numbered 1 n numbers ≡ true → titled n (instrument_id_name ∷ field_type_name ∷ numbers) ≡ true
titled_true n numbers h = and_from (same_text instrument_id_name instrument_id_name) _ (same_self instrument_id_name) (and_from (same_text field_type_name field_type_name) _ (same_self field_type_name) h)

spliced_cells : (c : List ℕ) (cs : List (List ℕ)) → All (Apart 44) (c ∷ cs) → cells (spliced 44 (c ∷ cs)) ≡ c ∷ cs
spliced_cells c cs h = ap (split 44) (sym (append-nil (spliced 44 (c ∷ cs)))) ∙ split_spliced 44 c cs 0 h ∙ append-nil (c ∷ cs)

pub titles_pass : (n : ℕ) (line : List ℕ) (rest numbers : List (List ℕ)) → Titles line n numbers → titles n (line ∷ rest) ≡ Ok rest
titles_pass n line rest numbers t =
    let step : (i : ℕ) → i + 1 ≡ 1 + i = λ i. omega arith in
    let f : (i : ℕ) → i < n → WritesStock (get_or numbers i []) (1 + i) = λ i l. subst (WritesStock (get_or numbers i [])) (step i) (t.each i l) in
    let apart = cells_apart 1 numbers (λ i l. f i (omega (arith, t.many))) in
    let cut : cells line ≡ instrument_id_name ∷ field_type_name ∷ numbers = ap cells t.text ∙ spliced_cells instrument_id_name (field_type_name ∷ numbers) (name_apart instrument_id_name refl, (name_apart field_type_name refl, apart)) in
    cond-true (titled n (cells line)) (Ok rest) (Err (fault_at 13 Name)) (ap (titled n) cut ∙ titled_true n numbers (numbered_true 1 n numbers (t.many, f)))
