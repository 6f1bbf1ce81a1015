-- A line passes exactly where it writes its returns: no byte of a return is a comma or ends a line, so that the line
-- is cut where its cells were put together, and the cells' own law does the rest. Assumes nothing.
use Rattle.std.proofs.Common.{◌≡◌, ℕ, zero, suc, ◌+◌, ◌*◌, ◌≤◌, Bool, true, false, ◌&&◌, leb, List, [], ◌∷◌, ◌++◌, length, take, drop, replicate, ℤ, pos, neg_ℤ, nat_abs, Ok, Err, Result, sym, refl, ap, ◌∙◌, subst, arith, w32, w64, SFits, to_z, of_z}
use Rattle.std.specs.List.{AllByRecursion as All}
use Rattle.std.proofs.lemmas.List.{take-append-drop, take_at, drop_at, length-take-le, length-append}
use Rattle.std.proofs.lemmas.Int.{to_z-of_z, ints}
use Rattle.std.proofs.ByRecursion.{All-append, All-weaker}
use Rattle.std.proofs.lemmas.Bool.{cond-true, and_parts, and_from, leb-true, le-leb}
use Rattle.parameter_text.specs.declared.terms.Question.{Question}
use Rattle.parameter_text.specs.declared.terms.Question.TheVariants.{Cells}
use Rattle.parameter_text.specs.Questions.{both}
use Rattle.parameter_text.specs.Digits.{Digit}
use Rattle.parameter_text.specs.Decimals.{sign_text, point_text}
use Rattle.parameter_text.specs.Cuts.{cells, spliced, all_empty, line_of, after_line, Starts}
use Rattle.parameter_text.proofs.DigitLaws.{ok_cond, ok_not_err}
use Rattle.parameter_text.proofs.DecimalLaws.{spells_passes, passes_spells}
use Rattle.parameter_text.proofs.CutLaws.{Apart, split_spliced, spliced_split, spliced_empties, empties, empties_true}
use Rattle.parameter_text.proofs.LineLaws.{Inside, starts_with}
use Rattle.parameter_rows.specs.Returns.{largest_return, SpellsReturn, SpellReturns, Returns, return_cell, verdict, returns_cells, ReturnsPass}

-- every byte of a return is above the comma, and so above CR and LF

abbrev pub Above : ℕ → Type 0
Above b = 45 ≤ b

digit_above : (b : ℕ) → Digit b → Above b
digit_above b h = omega arith

sign_above : (m : Bool) → All Above (sign_text m)
sign_above true = (omega arith, tt)
sign_above false = tt

point_above : (f : List ℕ) → All Digit f → All Above (point_text f)
point_above [] h = tt
point_above (d ∷ f) h = (omega arith, All-weaker Digit Above digit_above (d ∷ f) h)

spells_above : (c : List ℕ) (v : ℤ) → SpellsReturn c v → All Above c
spells_above c v (m, w, f, s) =
    subst (All Above) (sym s.text) (All-append Above (sign_text m) _ (sign_above m) (All-append Above w _ (All-weaker Digit Above digit_above w s.whole_digits) (point_above f s.fraction_digits)))

all_above : (cs : List (List ℕ)) (vs : List ℤ) → SpellReturns cs vs → All (All Above) cs
all_above [] [] h = tt
all_above [] (v ∷ vs) h = absurd h
all_above (c ∷ cs) [] h = absurd h
all_above (c ∷ cs) (v ∷ vs) h = (spells_above c v h.0, all_above cs vs h.1)

above_apart : (b : ℕ) → Above b → b ≡ 44 → ⊥
above_apart b h e = omega arith

cell_apart : (c : List ℕ) → All Above c → Apart 44 c
cell_apart c h = All-weaker Above (λ b. b ≡ 44 → ⊥) above_apart c h

-- from the relation

verdict_ok : (cs : List (List ℕ)) (vs : List ℤ) → SpellReturns cs vs → verdict cs ≡ Ok vs
verdict_ok [] [] h = refl
verdict_ok [] (v ∷ vs) h = absurd h
verdict_ok (c ∷ cs) [] h = absurd h
verdict_ok (c ∷ cs) (v ∷ vs) h = rw (spells_passes 8 (neg_ℤ (pos largest_return)) (pos largest_return) c v h.0, verdict_ok cs vs h.1) refl

pub cells_pass : (n k : ℕ) (cs : List (List ℕ)) (vs : List ℤ) → length cs ≡ n → SpellReturns cs vs → returns_cells n (cs ++ replicate k []) ≡ Ok vs
cells_pass n k cs vs e h =
    let front : take n (cs ++ replicate k []) ≡ cs = take_at cs (replicate k []) n e in
    let back : drop n (cs ++ replicate k []) ≡ replicate k [] = drop_at cs (replicate k []) n e in
    let enough : n ≤ length (cs ++ replicate k []) = omega (arith, length-append cs (replicate k [])) in
    cond-true _ _ _ (and_from (leb n (length (cs ++ replicate k []))) _ (le-leb n _ enough) (ap all_empty back ∙ empties_true k))
    ∙ ap verdict front
    ∙ verdict_ok cs vs h

pub returns_passes : (n : ℕ) (line : List ℕ) (vs : List ℤ) → 1 ≤ n → Returns n line vs → returns_cells n (cells line) ≡ Ok vs
returns_passes n line vs k ([], spare, e, t, h) = absurd (omega arith)
returns_passes n line vs k (c ∷ cs, spare, e, t, h) =
    let apart = All-weaker (All Above) (Apart 44) cell_apart (c ∷ cs) (all_above (c ∷ cs) vs h) in
    ap (λ (l : List ℕ). returns_cells n (cells l)) t
    ∙ ap (returns_cells n) (split_spliced 44 c cs spare apart)
    ∙ cells_pass n spare (c ∷ cs) vs e h

-- to the relation

both_ok : (r : Result ℤ Question) (s : Result (List ℤ) Question) (vs : List ℤ) → both (λ v us. v ∷ us) r s ≡ Ok vs → (x : ℤ) × (xs : List ℤ) × (r ≡ Ok x) × (s ≡ Ok xs) × (vs ≡ x ∷ xs)
both_ok (Ok x) (Ok xs) vs h = (x, xs, refl, refl, cc)
both_ok (Ok x) (Err q) vs h = absurd (ok_not_err vs q h)
both_ok (Err q) (Ok xs) vs h = absurd (ok_not_err vs q h)
both_ok (Err p) (Err q) vs h = absurd (let z : ◌≡◌ {A = ℕ} 0 1 = cc in omega arith)

pub verdict_spells : (cs : List (List ℕ)) (vs : List ℤ) → verdict cs ≡ Ok vs → SpellReturns cs vs
verdict_spells [] [] h = tt
verdict_spells [] (v ∷ vs) h = absurd (let z : ◌≡◌ {A = ℕ} 0 1 = cc in omega arith)
verdict_spells (c ∷ cs) vs h =
    let b = both_ok (return_cell c) (verdict cs) vs h in
    subst (SpellReturns (c ∷ cs)) (sym b.4) (passes_spells 8 (neg_ℤ (pos largest_return)) (pos largest_return) c b.0 b.2, verdict_spells cs b.1 b.3)

spliced_spare : (cs : List (List ℕ)) (k : ℕ) → 1 ≤ length cs → spliced 44 (cs ++ replicate k []) ≡ spliced 44 cs ++ replicate k 44
spliced_spare [] k h = absurd (omega arith)
spliced_spare (c ∷ cs) k h = spliced_empties 44 c cs k

-- what passes: enough cells, the others empty, and the first ones spell the values
pub judged_parts : (n : ℕ) (cs : List (List ℕ)) (vs : List ℤ) → returns_cells n cs ≡ Ok vs → (n ≤ length cs) × (all_empty (drop n cs) ≡ true) × SpellReturns (take n cs) vs
judged_parts n cs vs h =
    let one = ok_cond (leb n (length cs) && all_empty (drop n cs)) (verdict (take n cs)) Cells vs h in
    let two = and_parts (leb n (length cs)) (all_empty (drop n cs)) one.0 in
    (leb-true n (length cs) two.0, two.1, verdict_spells (take n cs) vs one.1)

pub passes_returns : (n : ℕ) (line : List ℕ) (vs : List ℤ) → 1 ≤ n → returns_cells n (cells line) ≡ Ok vs → Returns n line vs
passes_returns n line vs k h =
    let cs = cells line in
    let parts = judged_parts n cs vs h in
    let len : length (take n cs) ≡ n = length-take-le n cs parts.0 in
    let m = length (drop n cs) in (
      take n cs,
      m,
      len,
      spliced_split 44 line
          ∙ ap (spliced 44) (sym (take-append-drop n cs) ∙ ap (λ (l : List (List ℕ)). take n cs ++ l) (empties (drop n cs) parts.1))
          ∙ spliced_spare (take n cs) m (omega arith),
      parts.2,
    )

pub returns_pass : ReturnsPass
returns_pass n line vs k = (passes_returns n line vs k, returns_passes n line vs k)

-- what else is known of a line that passes

pub spell_count : (cs : List (List ℕ)) (vs : List ℤ) → SpellReturns cs vs → length cs ≡ length vs
spell_count [] [] h = refl
spell_count [] (v ∷ vs) h = absurd h
spell_count (c ∷ cs) [] h = absurd h
spell_count (c ∷ cs) (v ∷ vs) h = ap suc (spell_count cs vs h.1)

-- there are n values
pub returns_count : (n : ℕ) (cs : List (List ℕ)) (vs : List ℤ) → returns_cells n cs ≡ Ok vs → length vs ≡ n
returns_count n cs vs h =
    let parts = judged_parts n cs vs h in
    sym (spell_count (take n cs) vs parts.2) ∙ length-take-le n cs parts.0

spells_within : (c : List ℕ) (v : ℤ) → SpellsReturn c v → nat_abs v ≤ largest_return
spells_within c v (m, w, f, s) = omega (arith, ints, s.at_least, s.at_most)

-- a return is from -4 to 4
pub return_within : (c : List ℕ) (v : ℤ) → return_cell c ≡ Ok v → nat_abs v ≤ largest_return
return_within c v h = spells_within c v (passes_spells 8 (neg_ℤ (pos largest_return)) (pos largest_return) c v h)

-- a return that was read as 64 bits fits 32, and stays what it is
pub return_bits : (c : List ℕ) (v : ℤ) → Ok v ≡ return_cell c → SFits w32 (to_z w64 (of_z w64 v)) × (Ok (to_z w32 (of_z w32 (to_z w64 (of_z w64 v)))) ≡ return_cell c)
return_bits c v h =
    let small : nat_abs v ≤ largest_return = return_within c v (sym h) in
    let wide : SFits w64 v = omega (arith, ints) in
    let fits : SFits w32 v = omega (arith, ints) in
    let same : to_z w64 (of_z w64 v) ≡ v = to_z-of_z w64 v wide in
    (rw same fits, ap (λ (z : ℤ). Ok (to_z w32 (of_z w32 z))) same ∙ ap Ok (to_z-of_z w32 v fits) ∙ h)

spell_within : (cs : List (List ℕ)) (vs : List ℤ) → SpellReturns cs vs → All (λ v. nat_abs v ≤ largest_return) vs
spell_within [] [] h = tt
spell_within [] (v ∷ vs) h = absurd h
spell_within (c ∷ cs) [] h = absurd h
spell_within (c ∷ cs) (v ∷ vs) h = (spells_within c v h.0, spell_within cs vs h.1)

-- each value is from -4 to 4
pub returns_within : (n : ℕ) (cs : List (List ℕ)) (vs : List ℤ) → returns_cells n cs ≡ Ok vs → All (λ v. nat_abs v ≤ largest_return) vs
returns_within n cs vs h = spell_within (take n cs) vs (judged_parts n cs vs h).2

spells_some : (c : List ℕ) (v : ℤ) → SpellsReturn c v → 1 ≤ length c
spells_some c v (m, w, f, s) =
    omega (arith, s.one, ap length s.text, length-append (sign_text m) (w ++ point_text f), length-append w (point_text f))

spliced_long : (cs : List (List ℕ)) (vs : List ℤ) → SpellReturns cs vs → 2 * length cs ≤ length (spliced 44 cs) + 1
spliced_long [] vs h = omega arith
spliced_long (c ∷ []) [] h = absurd h
spliced_long (c ∷ []) (v ∷ vs) h = omega (arith, spells_some c v h.0)
spliced_long (c ∷ d ∷ cs) [] h = absurd h
spliced_long (c ∷ d ∷ cs) (v ∷ vs) h =
    omega (arith, spells_some c v h.0, spliced_long (d ∷ cs) vs h.1, length-append c (44 ∷ spliced 44 (d ∷ cs)))

-- the line has a byte for each of n cells, and one for each comma between two
pub returns_long : (n : ℕ) (line : List ℕ) (vs : List ℤ) → returns_cells n (cells line) ≡ Ok vs → 1 ≤ n → 2 * n ≤ length line + 1
returns_long n line vs h k =
    let r = passes_returns n line vs k h in
    omega (arith, r.2, spliced_long r.0 vs r.4, ap length r.3, length-append (spliced 44 r.0) (replicate r.1 44))

-- the line has no CR and no LF

above_inside : (b : ℕ) → Above b → Inside b
above_inside b h = omega arith

commas_inside : (k : ℕ) → All Inside (replicate k 44)
commas_inside zero = tt
commas_inside (suc k) = (omega arith, commas_inside k)

spliced_inside : (cs : List (List ℕ)) → All (All Above) cs → All Inside (spliced 44 cs)
spliced_inside [] h = tt
spliced_inside (c ∷ []) h = All-weaker Above Inside above_inside c h.0
spliced_inside (c ∷ d ∷ cs) h = All-append Inside c _ (All-weaker Above Inside above_inside c h.0) (omega arith, spliced_inside (d ∷ cs) h.1)

pub returns_inside : (n : ℕ) (line : List ℕ) (vs : List ℤ) → Returns n line vs → All Inside line
returns_inside n line vs (cs, k, e, t, h) = subst (All Inside) (sym t) (All-append Inside (spliced 44 cs) _ (spliced_inside cs (all_above cs vs h)) (commas_inside k))

-- what starts with a row's line passes
pub returns_start : (n : ℕ) (text line rest : List ℕ) (vs : List ℤ) → 1 ≤ n → Returns n line vs → Starts text line rest → (returns_cells n (cells (line_of text)) ≡ Ok vs) × (after_line text ≡ rest)
returns_start n text line rest vs k r s =
    let t = starts_with line rest (returns_inside n line vs r) text s in
    (ap (λ (l : List ℕ). returns_cells n (cells l)) t.0 ∙ returns_passes n line vs k r, t.1)
