-- A line passes as a row exactly where it lays one down. Assumes nothing.
use Rattle.std.proofs.Common.{◌≡◌, ℕ, zero, suc, ◌≤◌, eqb, List, [], ◌∷◌, ◌++◌, length, take, drop, replicate, ℤ, pos, neg_ℤ, nat_abs, ◌≤ℤ◌, Ok, Result, sym, refl, ap, ◌∙◌, subst, arith}
use borrow.Author.Differences.{ints}
use Rattle.std.specs.List.{AllByRecursion as All}
use Rattle.std.proofs.lemmas.List.{append-nil, take-append-drop, length-take-le}
use Rattle.std.proofs.lemmas.Bool.{cond-true, cond-false, ne_eqb}
use Rattle.parameter_text.specs.declared.terms.Question.{Question}
use Rattle.parameter_text.specs.declared.terms.Question.TheVariants.{Cells}
use Rattle.parameter_text.specs.Questions.{both, and_then, seen_as}
use Rattle.parameter_text.specs.Cuts.{split, cells, spliced, all_empty}
use Rattle.parameter_text.specs.Decimals.{decimal, Spells}
use Rattle.parameter_text.specs.Integers.{integer, stock_cell, Writes, WritesStock}
use Rattle.parameter_text.proofs.DigitLaws.{ok_not_err, ok_same, ok_cond}
use Rattle.parameter_text.proofs.DecimalLaws.{spells_passes, passes_spells}
use Rattle.parameter_text.proofs.IntegerLaws.{writes_passes, passes_writes, stock_passes, passes_stock}
use Rattle.parameter_text.proofs.CutLaws.{Apart, split_spliced, spliced_split, split_apart, empties, empties_true}
use Rattle.parameter_rows.specs.Returns.{returns_cells}
use Rattle.parameter_rows.proofs.ReturnLaws.{cells_pass, judged_parts}
use Rattle.return_source.specs.declared.terms.Entitlement.{Entitlement}
use Rattle.return_source.specs.declared.terms.EntitlementType.{EntitlementType}
use Rattle.return_source.specs.declared.terms.EntitlementType.TheVariants.{Dsp, Sri, Div}
use Rattle.return_source.specs.declared.terms.Parameters.{Parameters}
use Rattle.return_source.specs.declared.terms.ScenarioSet.{ScenarioSet}
use Rattle.return_source.specs.declared.terms.ScenarioSet.TheVariants.{Historical, Stress}
use Rattle.file_rules.specs.declared.terms.FieldType.{FieldType}
use Rattle.file_rules.specs.declared.terms.FieldType.TheVariants as field
use Rattle.file_rules.specs.Rows.{Content, returns, rate, right, unread, Row}
use Rattle.return_source.specs.Lawful.{scenario_count}
use Rattle.file_rules.specs.Judged.{field_of, rate_cell, price_cell, percent_cell, type_of, type_cell, priced, right_cells, rate_content, right_content, content, row_head, with_stock, row_of, row_cells, row_line}
use Rattle.file_rules.specs.Laid.{set_number, type_number, SpellsSize, LaysReturns, LaysRate, LaysRight, LaysContent, LaysRow}
use Rattle.file_rules.proofs.Answered.{both_ok, then_ok, as_ok}

-- values by their size

size_back : (v high : ℤ) (n : ℕ) → pos 0 ≤ℤ v → nat_abs v ≡ n → v ≡ pos n
size_back v high n h e = omega (arith, ints)

pub spells_size : (high : ℤ) (c : List ℕ) (n : ℕ) → seen_as nat_abs (decimal 4 (pos 0) high c) ≡ Ok n → Spells 4 (pos 0) high c (pos n)
spells_size high c n h =
    let a = as_ok nat_abs (decimal 4 (pos 0) high c) n h in
    let s = passes_spells 4 (pos 0) high c a.0 a.1 in
    subst (Spells 4 (pos 0) high c) (size_back a.0 high n s.3.at_least a.2) s

pub size_spelled : (high : ℤ) (c : List ℕ) (n : ℕ) → Spells 4 (pos 0) high c (pos n) → seen_as nat_abs (decimal 4 (pos 0) high c) ≡ Ok n
size_spelled high c n s = ap (seen_as nat_abs) (spells_passes 4 (pos 0) high c (pos n) s)

-- the numbers of sets, kinds and types

field_unread : (n : ℕ) → (4 ≤ n) → (n ≤ 6) → field_of n ≡ field.Unread
field_unread n a b =
    cond-false (eqb n 1) _ _ (ne_eqb n 1 (λ e. omega arith))
    ∙ cond-false (eqb n 2) _ _ (ne_eqb n 2 (λ e. omega arith))
    ∙ cond-false (eqb n 3) _ _ (ne_eqb n 3 (λ e. omega arith))
    ∙ cond-false (eqb n 7) _ _ (ne_eqb n 7 (λ e. omega arith))

field_set : (w : ScenarioSet) → field_of (set_number w) ≡ field.Returns w
field_set Historical = refl
field_set Stress = refl

type_back : (t : EntitlementType) → type_of (type_number t) ≡ t
type_back Dsp = refl
type_back Sri = refl
type_back Div = refl

number_back : (n : ℕ) → 1 ≤ n → n ≤ 3 → type_number (type_of n) ≡ n
number_back zero a b = absurd (omega arith)
number_back (suc zero) a b = refl
number_back (suc (suc zero)) a b = refl
number_back (suc (suc (suc zero))) a b = refl
number_back (suc (suc (suc (suc n)))) a b = absurd (omega arith)

-- which kind a number from 1 to 7 names
abbrev Named : ℕ → FieldType → Type 0
Named n (field.Returns w) = n ≡ set_number w
Named n field.FlatRate = n ≡ 3
Named n field.Entitlement = n ≡ 7
Named n field.Unread = (4 ≤ n) × (n ≤ 6)

named : (n : ℕ) → 1 ≤ n → n ≤ 7 → Named n (field_of n)
named zero a b = absurd (omega arith)
named (suc zero) a b = refl
named (suc (suc zero)) a b = refl
named (suc (suc (suc zero))) a b = refl
named (suc (suc (suc (suc zero)))) a b = (omega arith, omega arith)
named (suc (suc (suc (suc (suc zero))))) a b = (omega arith, omega arith)
named (suc (suc (suc (suc (suc (suc zero)))))) a b = (omega arith, omega arith)
named (suc (suc (suc (suc (suc (suc (suc zero))))))) a b = refl
named (suc (suc (suc (suc (suc (suc (suc (suc n)))))))) a b = absurd (omega arith)

-- from the relation

rate_passes : (number n : ℕ) (cs : List (List ℕ)) (c : List ℕ) (spare : ℕ) → LaysRate number cs n c spare → rate_content cs ≡ Ok (rate n)
rate_passes number n cs c spare l =
    ap rate_content l.text
    ∙ cond-true (all_empty (replicate spare [])) _ _ (empties_true spare)
    ∙ ap (seen_as rate) (size_spelled (pos 10000) c n l.spelled)

percent_passes : (c : List ℕ) (n : ℕ) → SpellsSize c n → percent_cell c ≡ Ok n
percent_passes c n (v, s, e) = ap (seen_as nat_abs) (spells_passes 4 (neg_ℤ (pos 40000)) (pos 40000) c v s) ∙ ap Ok e

right_passes : (number : ℕ) (cs : List (List ℕ)) (t : EntitlementType) (e : Entitlement) (a p s l : List ℕ) (spare : ℕ) → LaysRight number cs t e a p s l spare → right_content cs ≡ Ok (right t e)
right_passes number cs t e a p s l spare r =
    let kind : type_cell a ≡ Ok t = ap (seen_as type_of) (writes_passes 1 3 a (type_number t) r.kind) ∙ ap Ok (type_back t) in
    let price = size_spelled (pos 99990000) p e.price r.price in
    let short = percent_passes s e.short r.short in
    let long = percent_passes l e.long r.long in
    ap right_content r.text
    ∙ cond-true (all_empty (replicate spare [])) _ _ (empties_true spare)
    ∙ ap (λ (x : Result EntitlementType Question). both right x (both priced (price_cell p) (both (λ (u v : ℕ). (u, v)) (percent_cell s) (percent_cell l)))) kind
    ∙ ap (λ (x : Result ℕ Question). both right (Ok t) (both priced x (both (λ (u v : ℕ). (u, v)) (percent_cell s) (percent_cell l)))) price
    ∙ ap (λ (x : Result ℕ Question). both right (Ok t) (both priced (Ok e.price) (both (λ (u v : ℕ). (u, v)) x (percent_cell l)))) short
    ∙ ap (λ (x : Result ℕ Question). both right (Ok t) (both priced (Ok e.price) (both (λ (u v : ℕ). (u, v)) (Ok e.short) x))) long

content_passes : (p : Parameters) (number : ℕ) (cs : List (List ℕ)) (x : Content) → LaysContent p number cs x → content p (field_of number) cs ≡ Ok x
content_passes p number cs (returns w vs) (needed, spare, l) =
    ap (λ (t : FieldType). content p t cs) (ap field_of l.type ∙ field_set w)
    ∙ ap (λ (k : List (List ℕ)). seen_as (returns w) (returns_cells (scenario_count p w) k)) l.text
    ∙ ap (seen_as (returns w)) (cells_pass (scenario_count p w) spare needed vs l.many l.spelled)
content_passes p number cs (rate n) (c, spare, l) =
    ap (λ (k : ℕ). content p (field_of k) cs) l.type ∙ rate_passes number n cs c spare l
content_passes p number cs (right t e) (a, q, s, d, spare, l) =
    ap (λ (k : ℕ). content p (field_of k) cs) l.type ∙ right_passes number cs t e a q s d spare l
content_passes p number cs unread (a, b) = ap (λ (t : FieldType). content p t cs) (field_unread number a b)

pub row_passes : (p : Parameters) (line : List ℕ) (r : Row) → LaysRow p line r → row_line p line ≡ Ok r
row_passes p line r (c, d, cs, number, t) =
    let cut : cells line ≡ c ∷ d ∷ cs = ap (split 44) (t.text ∙ sym (append-nil (spliced 44 (c ∷ d ∷ cs)))) ∙ split_spliced 44 c (d ∷ cs) 0 t.apart ∙ append-nil (c ∷ d ∷ cs) in
    let stock = stock_passes c r.stock t.stock in
    let type = writes_passes 1 7 d number t.type in
    let head : row_head c d ≡ Ok (r.stock, field_of number) = ap (λ (x : Result ℕ Question). both (λ (s n : ℕ). (s, field_of n)) x (integer 1 7 d)) stock ∙ ap (λ (x : Result ℕ Question). both (λ (s n : ℕ). (s, field_of n)) (Ok r.stock) x) type in
    ap (row_cells p) cut
    ∙ ap (λ (x : Result (ℕ × FieldType) Question). and_then x (row_of p cs)) head
    ∙ ap (seen_as (λ (x : Content). with_stock r.stock x)) (content_passes p number cs r.content t.content)

-- to the relation

rate_laid : (number : ℕ) (cs : List (List ℕ)) (x : Content) → number ≡ 3 → rate_content cs ≡ Ok x → (n : ℕ) × (x ≡ rate n) × ((c : List ℕ) × (spare : ℕ) × LaysRate number cs n c spare)
rate_laid number [] x e h = absurd (ok_not_err x Cells h)
rate_laid number (c ∷ cs) x e h =
    let one = ok_cond (all_empty cs) (seen_as rate (rate_cell c)) Cells x h in
    let two = as_ok rate (rate_cell c) x one.1 in
    (two.0, sym two.2, (c, length cs, record { type = e; text = ap (λ (l : List (List ℕ)). c ∷ l) (empties cs one.0); spelled = spells_size (pos 10000) c two.0 two.1 }))

percent_laid : (c : List ℕ) (n : ℕ) → percent_cell c ≡ Ok n → SpellsSize c n
percent_laid c n h =
    let a = as_ok nat_abs (decimal 4 (neg_ℤ (pos 40000)) (pos 40000) c) n h in
    (a.0, passes_spells 4 (neg_ℤ (pos 40000)) (pos 40000) c a.0 a.1, a.2)

right_laid : (number : ℕ) (cs : List (List ℕ)) (x : Content) → number ≡ 7 → right_content cs ≡ Ok x → (t : EntitlementType) × (e : Entitlement) × (x ≡ right t e) × ((a : List ℕ) × (q : List ℕ) × (s : List ℕ) × (l : List ℕ) × (spare : ℕ) × LaysRight number cs t e a q s l spare)
right_laid number [] x e h = absurd (ok_not_err x Cells h)
right_laid number (a ∷ []) x e h = absurd (ok_not_err x Cells h)
right_laid number (a ∷ p ∷ []) x e h = absurd (ok_not_err x Cells h)
right_laid number (a ∷ p ∷ s ∷ []) x e h = absurd (ok_not_err x Cells h)
right_laid number (a ∷ p ∷ s ∷ l ∷ cs) x e h =
    let one = ok_cond (all_empty cs) (right_cells a p s l) Cells x h in
    let two = both_ok right (type_cell a) _ x one.1 in
    let kind = as_ok type_of (integer 1 3 a) two.0 two.2 in
    let writes = passes_writes 1 3 a kind.0 kind.1 in
    let number_is : kind.0 ≡ type_number two.0 = sym (ap type_number (sym kind.2) ∙ number_back kind.0 writes.at_least writes.at_most) in
    let three = both_ok priced (price_cell p) _ two.1 two.3 in
    let four = both_ok (λ (u v : ℕ). (u, v)) (percent_cell s) (percent_cell l) three.1 three.3 in
    let made : priced three.0 (four.0, four.1) ≡ two.1 = ap (priced three.0) four.4 ∙ three.4 in
    let written = priced three.0 (four.0, four.1) in (
      two.0,
      written,
      sym (ap (right two.0) made ∙ two.4),
      (
        a,
        p,
        s,
        l,
        length cs,
        record {
          type = e;
          text = ap (λ (k : List (List ℕ)). a ∷ p ∷ s ∷ l ∷ k) (empties cs one.0);
          kind = subst (Writes 1 3 a) number_is writes;
          price = spells_size (pos 99990000) p three.0 three.2;
          short = percent_laid s four.0 four.2;
          long = percent_laid l four.1 four.3;
        },
      ),
    )

returns_laid : (p : Parameters) (number : ℕ) (w : ScenarioSet) (cs : List (List ℕ)) (x : Content) → number ≡ set_number w → seen_as (returns w) (returns_cells (scenario_count p w) cs) ≡ Ok x → (vs : List ℤ) × (x ≡ returns w vs) × ((needed : List (List ℕ)) × (spare : ℕ) × LaysReturns p number cs w vs needed spare)
returns_laid p number w cs x e h =
    let n = scenario_count p w in
    let one = as_ok (returns w) (returns_cells n cs) x h in
    let parts = judged_parts n cs one.0 one.1 in (
      one.0,
      sym one.2,
      (
        take n cs,
        length (drop n cs),
        record {
          type = e;
          text = sym (take-append-drop n cs) ∙ ap (λ (l : List (List ℕ)). take n cs ++ l) (empties (drop n cs) parts.1);
          many = length-take-le n cs parts.0;
          spelled = parts.2;
        },
      ),
    )

content_laid : (p : Parameters) (number : ℕ) (t : FieldType) (cs : List (List ℕ)) (x : Content) → Named number t → content p t cs ≡ Ok x → LaysContent p number cs x
content_laid p number (field.Returns w) cs x e h = let r = returns_laid p number w cs x e h in subst (LaysContent p number cs) (sym r.1) r.2
content_laid p number field.FlatRate cs x e h = let r = rate_laid number cs x e h in subst (LaysContent p number cs) (sym r.1) r.2
content_laid p number field.Entitlement cs x e h = let r = right_laid number cs x e h in subst (LaysContent p number cs) (sym r.2) r.3
content_laid p number field.Unread cs x e h = subst (LaysContent p number cs) (ok_same unread x h) e

row_laid : (p : Parameters) (line : List ℕ) (all : List (List ℕ)) (r : Row) → cells line ≡ all → row_cells p all ≡ Ok r → LaysRow p line r
row_laid p line [] r e h = absurd (ok_not_err r Cells h)
row_laid p line (c ∷ []) r e h = absurd (ok_not_err r Cells h)
row_laid p line (c ∷ d ∷ cs) r e h =
    let one = then_ok (row_head c d) (row_of p cs) r h in
    let head = both_ok (λ (s n : ℕ). (s, field_of n)) (stock_cell c) (integer 1 7 d) one.0 one.1 in
    let body = as_ok (λ (x : Content). with_stock one.0.0 x) (content p one.0.1 cs) r one.2 in
    let stock : head.0 ≡ r.stock = ap (λ (q : ℕ × FieldType). q.0) head.4 ∙ ap (λ (q : Row). q.stock) body.2 in
    let kind : field_of head.1 ≡ one.0.1 = ap (λ (q : ℕ × FieldType). q.1) head.4 in
    let writes = passes_writes 1 7 d head.1 head.3 in
    let laid = content_laid p head.1 (field_of head.1) cs body.0 (named head.1 writes.at_least writes.at_most) (ap (λ (t : FieldType). content p t cs) kind ∙ body.1) in (
      c,
      d,
      cs,
      head.1,
      record {
        text = spliced_split 44 line ∙ ap (spliced 44) e;
        apart = subst (All (Apart 44)) e (split_apart 44 line);
        stock = subst (WritesStock c) stock (passes_stock c head.0 head.2);
        type = writes;
        content = subst (LaysContent p head.1 cs) (ap (λ (q : Row). q.content) body.2) laid;
      },
    )

pub passes_row : (p : Parameters) (line : List ℕ) (r : Row) → row_line p line ≡ Ok r → LaysRow p line r
passes_row p line r h = row_laid p line (cells line) r refl h
