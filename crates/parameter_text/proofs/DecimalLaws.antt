-- A decimal passes exactly where it spells a value: the sign, the digits before the point and those after it are
-- found by cutting at the first byte that is no digit. Assumes nothing.
use Rattle.std.proofs.Common.{◌≡◌, ℕ, ◌≤◌, Bool, true, false, cond, eqb, leb, List, [], ◌∷◌, ◌++◌, length, take, drop, ℤ, ◌≤ℤ◌, Ok, sym, refl, ap, ◌∙◌, subst, arith}
use lib.Signed.{le_z}
use borrow.Author.Differences.{ints}
use Rattle.std.specs.List.{prefix_len, AllByRecursion as All}
use Rattle.std.proofs.lemmas.List.{take-append-drop, take_at, drop_at}
use Rattle.std.proofs.lemmas.Bool.{cond-true, cond-false, and_parts, and_from, leb-true, eqb-true, le-leb}
use Rattle.std.proofs.lemmas.Bool.Decides.{nat_tests}
use Rattle.parameter_text.specs.declared.terms.Question.TheVariants.{Form, Range}
use Rattle.parameter_text.specs.Digits.{Digit, digit, every}
use Rattle.parameter_text.specs.Decimals.{scaled, signed, sign_text, point_text, Spells, minus_in, unsigned_in, pointed, formed, ranged, judged, plain, decimal, DecimalsPass}
use Rattle.parameter_text.proofs.DigitLaws.{digit_true, digit_fact, digits_true, digits_fact, zeros_true, zeros_fact, leading_front, front_passes, ok_cond, ok_same}

-- from the spelling

stops : (f : List ℕ) → prefix_len digit (point_text f) ≡ 0
stops [] = refl
stops (d ∷ f) = refl

fraction_back : (f : List ℕ) → drop 1 (point_text f) ≡ f
fraction_back [] = refl
fraction_back (d ∷ f) = refl

pointed_true : (f : List ℕ) → All Digit f → length f ≤ 10 → pointed (point_text f) ≡ true
pointed_true [] h k = refl
pointed_true (d ∷ f) h k = and_from (leb 1 (length (d ∷ f))) _ (le-leb 1 (length (d ∷ f)) (omega arith)) (and_from (leb (length (d ∷ f)) 10) _ (le-leb (length (d ∷ f)) 10 k) (digits_true (d ∷ f) h))

-- no digit is a minus
unsigned_whole : (w t : List ℕ) → All Digit w → 1 ≤ length w → (minus_in (w ++ t) ≡ false) × (unsigned_in (w ++ t) ≡ w ++ t)
unsigned_whole [] t h k = absurd (omega arith)
unsigned_whole (x ∷ w) t h k =
    let no : eqb x 45 ≡ false = grind (arith, nat_tests) in
    (no, cond-false (eqb x 45) _ _ no)

sign_back : (m : Bool) (w t : List ℕ) → All Digit w → 1 ≤ length w → (minus_in (sign_text m ++ (w ++ t)) ≡ m) × (unsigned_in (sign_text m ++ (w ++ t)) ≡ w ++ t)
sign_back true w t h k = (refl, refl)
sign_back false w t h k = unsigned_whole w t h k

pub le_z_true : (a b : ℤ) → a ≤ℤ b → le_z a b ≡ true
le_z_true a b h = grind (arith, ints)

pub le_z_fact : (a b : ℤ) → le_z a b ≡ true → a ≤ℤ b
le_z_fact a b h = grind (arith, ints)

module _ (p : ℕ) (low high : ℤ) where
  judged_ok : (m : Bool) (w t f : List ℕ) (v : ℤ) → drop 1 t ≡ f → v ≡ signed m (scaled p w f) → formed w t ≡ true → ranged p low high f v ≡ true → judged p low high m w t ≡ Ok v
  judged_ok m w t f v e k a b =
      cond-true (formed w t) _ _ a ∙ rw (e, ← k) (cond-true (ranged p low high f v) _ _ b)

  pub spells_passes : (bs : List ℕ) (v : ℤ) → Spells p low high bs v → decimal p low high bs ≡ Ok v
  spells_passes bs v (m, w, f, s) =
      let t = point_text f in
      let back = sign_back m w t s.whole_digits s.one in
      let front = leading_front digit Digit digit_true digit_fact w t s.whole_digits (stops f) in
      let wh : take (prefix_len digit (w ++ t)) (w ++ t) ≡ w = take_at w t _ (sym front) in
      let re : drop (prefix_len digit (w ++ t)) (w ++ t) ≡ t = drop_at w t _ (sym front) in
      let a : formed w t ≡ true = and_from (leb 1 (length w)) _ (le-leb 1 (length w) s.one) (and_from (leb (length w) 4) _ (le-leb (length w) 4 s.four) (pointed_true f s.fraction_digits s.ten)) in
      let b : ranged p low high f v ≡ true = and_from (every (eqb 48) (drop p f)) _ (zeros_true (drop p f) s.no_more_places) (and_from (le_z low v) _ (le_z_true low v s.at_least) (le_z_true v high s.at_most)) in
      let j = judged_ok m w t f v (fraction_back f) s.value a b in
      ap (decimal p low high) s.text
      ∙ ap (λ (k : Bool). plain p low high k (unsigned_in (sign_text m ++ (w ++ t)))) back.0
      ∙ ap (plain p low high m) back.1
      ∙ ap (λ (x : List ℕ). judged p low high m x (drop (prefix_len digit (w ++ t)) (w ++ t))) wh
      ∙ ap (judged p low high m w) re
      ∙ j

-- to the spelling

sign_front : (bs : List ℕ) → bs ≡ sign_text (minus_in bs) ++ unsigned_in bs
sign_front [] = refl
sign_front (b ∷ bs) =
    elim (eqb b 45) as (λ t. eqb b 45 ≡ t → (b ∷ bs) ≡ sign_text t ++ cond t bs (b ∷ bs)) [
      | true ↦ λ e. ap (λ x. x ∷ bs) (eqb-true b 45 e)
      | false ↦ λ _. refl
    ]
    refl

point_back : (t : List ℕ) → pointed t ≡ true → t ≡ point_text (drop 1 t)
point_back [] h = refl
point_back (b ∷ []) h = absurd (let s = and_parts (eqb b 46) _ h in let z : ◌≡◌ {A = Bool} false true = s.1 in let y : ◌≡◌ {A = ℕ} 0 1 = cc in omega arith)
point_back (b ∷ d ∷ f) h = ap (λ x. x ∷ d ∷ f) (eqb-true b 46 (and_parts (eqb b 46) _ h).0)

pub point_digits : (t : List ℕ) → pointed t ≡ true → All Digit (drop 1 t) × (length (drop 1 t) ≤ 10)
point_digits [] h = (tt, omega arith)
point_digits (b ∷ f) h =
    let r = (and_parts (leb 1 (length f)) _ (and_parts (eqb b 46) _ h).1).1 in
    let s = and_parts (leb (length f) 10) _ r in
    (digits_fact f s.1, leb-true (length f) 10 s.0)

pub passes_spells : (p : ℕ) (low high : ℤ) (bs : List ℕ) (v : ℤ) → decimal p low high bs ≡ Ok v → Spells p low high bs v
passes_spells p low high bs v h =
    let u = unsigned_in bs in
    let n = prefix_len digit u in
    let w = take n u in
    let t = drop n u in
    let f = drop 1 t in
    let x = signed (minus_in bs) (scaled p w f) in
    let one = ok_cond (formed w t) _ Form v h in
    let two = ok_cond (ranged p low high f x) (Ok x) Range v one.1 in
    let same : x ≡ v = ok_same x v two.1 in
    let q = and_parts (leb 1 (length w)) _ one.0 in
    let q2 = and_parts (leb (length w) 4) _ q.1 in
    let q3 = and_parts (every (eqb 48) (drop p f)) _ two.0 in
    let q4 = and_parts (le_z low x) _ q3.1 in (
      minus_in bs,
      w,
      f,
      record {
        text = sign_front bs ∙ ap (λ (l : List ℕ). sign_text (minus_in bs) ++ l) (sym (take-append-drop n u) ∙ ap (λ (l : List ℕ). w ++ l) (point_back t q2.1));
        whole_digits = front_passes digit Digit digit_true digit_fact u;
        fraction_digits = (point_digits t q2.1).0;
        one = leb-true 1 (length w) q.0;
        four = leb-true (length w) 4 q2.0;
        ten = (point_digits t q2.1).1;
        no_more_places = zeros_fact (drop p f) q3.0;
        value = sym same;
        at_least = subst (λ (z : ℤ). low ≤ℤ z) same (le_z_fact low x q4.0);
        at_most = subst (λ (z : ℤ). z ≤ℤ high) same (le_z_fact x high q4.1);
      },
    )

pub decimals_pass : DecimalsPass
decimals_pass p low high bs v = (passes_spells p low high bs v, spells_passes p low high bs v)
