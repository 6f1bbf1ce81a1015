-- What a value that passes is known to be: a share, a weight, a level and a factor. Assumes nothing.
use Rattle.std.proofs.Common.{◌≡◌, ℕ, ◌+◌, ◌-◌, ◌*◌, ◌<◌, ◌≤◌, ◌&&◌, eqb, leb, List, ℤ, pos, negsuc, nat_abs, ◌≤ℤ◌, Ok, Err, Result, sym, refl, ap, ◌∙◌, subst, mul-le-mul_right, arith}
use borrow.Author.Differences.{ints}
use Rattle.std.proofs.lemmas.Bool.{cond-true, and_parts, and_from, leb-true, le-leb, eqb-true, eq-eqb}
use Rattle.parameter_text.specs.declared.terms.Question.TheVariants.{Range}
use Rattle.parameter_text.specs.Questions.{seen_as}
use Rattle.parameter_text.specs.Decimals.{Spells, decimal}
use Rattle.parameter_text.proofs.DecimalLaws.{passes_spells, spells_passes}
use Rattle.parameter_text.proofs.DigitLaws.{ok_cond, ok_same, ok_not_err}
use Rattle.parameter_heading.specs.Headings.{share_cell, weight_left, other_weight, tail_count, with_tail, level_cell, factor_cell}
use Rattle.parameter_heading.specs.Laid.{SpellsShare, SpellsFactor, Tail}
use Rattle.parameter_heading.proofs.GivenLines.{then_parts, then_both}

-- decimals that are not below 0

value_within : (p : ℕ) (low high : ℤ) (bs : List ℕ) (v : ℤ) → decimal p low high bs ≡ Ok v → (low ≤ℤ v) × (v ≤ℤ high)
value_within p low high bs v h = let s = passes_spells p low high bs v h in (s.3.at_least, s.3.at_most)

pub size_within : (p top : ℕ) (bs : List ℕ) (v : ℤ) → decimal p (pos 0) (pos top) bs ≡ Ok v → nat_abs v ≤ top
size_within p top bs v h = let w = value_within p (pos 0) (pos top) bs v h in let low = w.0 in let high = w.1 in omega (arith, ints)

pub at_most : (n top : ℕ) → pos n ≤ℤ pos top → n ≤ top
at_most n top h = omega (arith, ints)

size_is : (v : ℤ) → pos 0 ≤ℤ v → v ≡ pos (nat_abs v)
size_is (pos n) h = refl
size_is (negsuc n) h = absurd (omega (arith, ints))

seen_parts : {X Y E : Type 0} (f : X → Y) (r : Result X E) (y : Y) → seen_as f r ≡ Ok y → (x : X) × (r ≡ Ok x) × (f x ≡ y)
seen_parts f (Ok x) y h = (x, refl, ok_same (f x) y h)
seen_parts f (Err e) y h = absurd (ok_not_err y e h)

module _ (p : ℕ) (high : ℤ) where
  pub size_spells : (v : List ℕ) (n : ℕ) → seen_as nat_abs (decimal p (pos 0) high v) ≡ Ok n → Spells p (pos 0) high v (pos n)
  size_spells v n h =
      let q = seen_parts nat_abs (decimal p (pos 0) high v) n h in
      let low = (value_within p (pos 0) high v q.0 q.1).0 in
      subst (Spells p (pos 0) high v) (size_is q.0 low ∙ ap pos q.2) (passes_spells p (pos 0) high v q.0 q.1)

  pub spells_size : (v : List ℕ) (n : ℕ) → Spells p (pos 0) high v (pos n) → seen_as nat_abs (decimal p (pos 0) high v) ≡ Ok n
  spells_size v n s = ap (seen_as nat_abs) (spells_passes p (pos 0) high v (pos n) s)

-- shares and factors

pub share_spells : (n : ℕ) (v : List ℕ) → share_cell v ≡ Ok n → SpellsShare n v
share_spells n v h = size_spells 4 (pos 10000) v n h

pub spells_share : (n : ℕ) (v : List ℕ) → SpellsShare n v → share_cell v ≡ Ok n
spells_share n v s = spells_size 4 (pos 10000) v n s

pub factor_spells : (n : ℕ) (v : List ℕ) → factor_cell v ≡ Ok n → SpellsFactor n v
factor_spells n v h = size_spells 10 (pos 10000000000) v n h

pub spells_factor : (n : ℕ) (v : List ℕ) → SpellsFactor n v → factor_cell v ≡ Ok n
spells_factor n v s = spells_size 10 (pos 10000000000) v n s

-- the stress weight

pub weight_parts : (h s : ℕ) (v : List ℕ) → other_weight h v ≡ Ok s → SpellsShare s v × (h + s ≡ 10000)
weight_parts h s v e =
    let p = then_parts (share_cell v) (weight_left h) s e in
    let q = ok_cond (eqb (h + p.0) 10000) (Ok p.0) Range s p.2 in
    let same : p.0 ≡ s = ok_same p.0 s q.1 in
    (share_spells s v (p.1 ∙ ap Ok same), ap (λ (x : ℕ). h + x) (sym same) ∙ eqb-true (h + p.0) 10000 q.0)

pub weight_passes : (h s : ℕ) → h + s ≡ 10000 → (v : List ℕ) → SpellsShare s v → other_weight h v ≡ Ok s
weight_passes h s e v w = then_both (share_cell v) (weight_left h) s s (spells_share s v w) (cond-true (eqb (h + s) 10000) (Ok s) (Err Range) (eq-eqb (h + s) 10000 e))

-- tails

pub tail_is : (level count tail : ℕ) → Tail level count tail → tail_count level count ≡ tail
tail_is level count tail t =
    let x = (10000 - level) * count in
    let a : x ≤ tail * 10000 = t.enough in
    let b : tail * 10000 < x + 10000 = t.least in
    omega arith

tail_of : (level count : ℕ) → 1 ≤ tail_count level count → tail_count level count ≤ 100 → Tail level count (tail_count level count)
tail_of level count a b = let x = (10000 - level) * count in record { enough = omega arith; least = omega arith; some = a; few = b }

pub tail_within : (level count tail : ℕ) → Tail level count tail → tail ≤ count
tail_within level count tail t =
    let small : 10000 - level ≤ 10000 = omega arith in
    let m : (10000 - level) * count ≤ 10000 * count = mul-le-mul_right count small in
    omega (arith, t.least)

-- levels

pub level_parts : (count level : ℕ) (v : List ℕ) → level_cell count v ≡ Ok level → SpellsShare level v × Tail level count (tail_count level count)
level_parts count level v e =
    let p = then_parts (share_cell v) (with_tail count) level e in
    let l = p.0 in
    let t = tail_count l count in
    let q = ok_cond (leb 1 t && leb t 100) (Ok l) Range level p.2 in
    let same : l ≡ level = ok_same l level q.1 in
    let b = and_parts (leb 1 t) (leb t 100) q.0 in
    (share_spells level v (p.1 ∙ ap Ok same), subst (λ (x : ℕ). Tail x count (tail_count x count)) same (tail_of l count (leb-true 1 t b.0) (leb-true t 100 b.1)))

pub level_passes : (count level tail : ℕ) → Tail level count tail → (v : List ℕ) → SpellsShare level v → level_cell count v ≡ Ok level
level_passes count level tail t v s =
    let is = tail_is level count tail t in
    let k = tail_count level count in
    let a : 1 ≤ k = omega (arith, is, t.some) in
    let b : k ≤ 100 = omega (arith, is, t.few) in
    then_both (share_cell v) (with_tail count) level level (spells_share level v s) (cond-true (leb 1 k && leb k 100) (Ok level) (Err Range) (and_from (leb 1 k) (leb k 100) (le-leb 1 k a) (le-leb k 100 b)))
