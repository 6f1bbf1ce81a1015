-- An integer passes exactly where it writes a number in range. Assumes nothing.
use Rattle.std.proofs.Common.{◌≡◌, ℕ, ◌≤◌, Bool, true, false, cond, ◌&&◌, leb, List, [], ◌∷◌, length, get_or, Some, None, Ok, Option, sym, refl, ap, ◌∙◌, subst, arith}
use Rattle.std.proofs.lemmas.Bool.{cond-true, cond-false, and_parts, and_from, leb-true, le-leb, eqb-false, ne_eqb}
use Rattle.parameter_text.specs.declared.terms.Question.TheVariants.{Form, Range}
use Rattle.parameter_text.specs.Digits.{number}
use Rattle.parameter_text.specs.Integers.{last_stock, Writes, WritesStock, whole_formed, whole_of, in_bounds, bounded, integer, zero_first, stock_cell, IntegersPass, StocksPass}
use Rattle.parameter_text.proofs.DigitLaws.{digits_true, digits_fact, ok_cond, ok_same, ok_not_err}

pub writes_passes : (low high : ℕ) (bs : List ℕ) (n : ℕ) → Writes low high bs n → integer low high bs ≡ Ok n
writes_passes low high bs n w =
    let a : whole_formed bs ≡ true = and_from (leb 1 (length bs)) _ (le-leb 1 (length bs) w.one) (and_from (leb (length bs) 9) _ (le-leb (length bs) 9 w.nine) (digits_true bs w.digits)) in
    let b : (leb low n && leb n high) ≡ true = and_from (leb low n) _ (le-leb low n w.at_least) (le-leb n high w.at_most) in
    ap (in_bounds low high) (cond-true (whole_formed bs) (Some (number 0 bs)) None a) ∙ ap (bounded low high) (sym w.value) ∙ cond-true (leb low n && leb n high) _ _ b

formed_bounds : (low high : ℕ) (b : Bool) (m n : ℕ) → in_bounds low high (cond b (Some m) None) ≡ Ok n → (b ≡ true) × (bounded low high m ≡ Ok n)
formed_bounds low high true m n h = (refl, h)
formed_bounds low high false m n h = absurd (ok_not_err n Form h)

pub passes_writes : (low high : ℕ) (bs : List ℕ) (n : ℕ) → integer low high bs ≡ Ok n → Writes low high bs n
passes_writes low high bs n h =
    let m = number 0 bs in
    let one = formed_bounds low high (whole_formed bs) m n h in
    let two = ok_cond (leb low m && leb m high) (Ok m) Range n one.1 in
    let same : m ≡ n = ok_same m n two.1 in
    let q = and_parts (leb 1 (length bs)) _ one.0 in
    let q2 = and_parts (leb (length bs) 9) _ q.1 in
    let q3 = and_parts (leb low m) _ two.0 in
    record {
      digits = digits_fact bs q2.1;
      one = leb-true 1 (length bs) q.0;
      nine = leb-true (length bs) 9 q2.0;
      value = sym same;
      at_least = subst (λ (x : ℕ). low ≤ x) same (leb-true low m q3.0);
      at_most = subst (λ (x : ℕ). x ≤ high) same (leb-true m high q3.1);
    }

pub integers_pass : IntegersPass
integers_pass low high bs n = (passes_writes low high bs n, writes_passes low high bs n)

zero_first_false : (bs : List ℕ) → (get_or bs 0 0 ≡ 48 → ⊥) → zero_first bs ≡ false
zero_first_false [] h = refl
zero_first_false (b ∷ bs) h = ne_eqb b 48 h

zero_first_fact : (bs : List ℕ) → 1 ≤ length bs → zero_first bs ≡ false → get_or bs 0 0 ≡ 48 → ⊥
zero_first_fact [] k h e = omega arith
zero_first_fact (b ∷ bs) k h e = eqb-false b 48 h e

pub stock_passes : (bs : List ℕ) (n : ℕ) → WritesStock bs n → stock_cell bs ≡ Ok n
stock_passes bs n w = ap (in_bounds 1 last_stock) (cond-false (zero_first bs) None (whole_of bs) (zero_first_false bs w.no_zero)) ∙ writes_passes 1 last_stock bs n w.number_of

stock_cond : (b : Bool) (o : Option ℕ) (n : ℕ) → in_bounds 1 last_stock (cond b None o) ≡ Ok n → (b ≡ false) × (in_bounds 1 last_stock o ≡ Ok n)
stock_cond true o n h = absurd (ok_not_err n Form h)
stock_cond false o n h = (refl, h)

pub passes_stock : (bs : List ℕ) (n : ℕ) → stock_cell bs ≡ Ok n → WritesStock bs n
passes_stock bs n h =
    let s = stock_cond (zero_first bs) _ n h in
    let w = passes_writes 1 last_stock bs n s.1 in
    record { number_of = w; no_zero = zero_first_fact bs w.one s.0 }

pub stocks_pass : StocksPass
stocks_pass bs n = (passes_stock bs n, stock_passes bs n)
