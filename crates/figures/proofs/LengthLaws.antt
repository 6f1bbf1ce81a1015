-- How long the text of a figure is. Assumes nothing.
use Rattle.std.proofs.Common.{◌≡◌, ℕ, zero, suc, ◌+◌, ◌-◌, ◌/◌, ◌%◌, ◌^◌, ◌<◌, ◌≤◌, [], ◌∷◌, ◌++◌, length, codes, decimal, sym, refl, ap, ◌∙◌, sub-one, arith, length-append}
use Rattle.std.proofs.lemmas.Fmt.{decimal_digit, decimal_step}
use Rattle.parameter_text.specs.declared.terms.Date.{Date}
use Rattle.figures.specs.Figures.{padded, pointed, separated, iso_date}
use Rattle.figures.specs.Columns.{spaces}
use Rattle.figures.proofs.FigureLaws.{separated_more}

pub length_decimal_digit : (n : ℕ) → n < 10 → length (decimal n) ≡ 1
length_decimal_digit n h = ap length (decimal_digit n h)

pub length_decimal_more : (n : ℕ) → 10 ≤ n → n < 2 ^ 64 → length (decimal (n / 10)) + 1 ≡ length (decimal n)
length_decimal_more n h l = sym (ap length (decimal_step n h l) ∙ length-append (decimal (n / 10)) ((48 + n % 10) ∷ []))

pub length_padded : (k n : ℕ) → length (padded k n) ≡ k
length_padded zero n = refl
length_padded (suc k) n =
    let digit : n % 10 < 10 = omega arith in
    omega (arith, length-append (padded k (n / 10)) (decimal (n % 10)), length_padded k (n / 10), length_decimal_digit (n % 10) digit)

pub length_pointed : (k n : ℕ) → length (pointed k n) ≡ length (decimal (n / 10 ^ k)) + (k + 1)
length_pointed k n = omega (arith, length-append (decimal (n / 10 ^ k)) (codes "." ++ padded k n), length_padded k n)

pub length_iso_date : (d : Date) → length (iso_date d) ≡ length (decimal d.year) + 6
length_iso_date d =
    omega (arith, length-append (decimal d.year) (codes "-" ++ (padded 2 d.month ++ (codes "-" ++ padded 2 d.day))), length-append (padded 2 d.month) (codes "-" ++ padded 2 d.day), length_padded 2 d.month, length_padded 2 d.day)

pub length_separated_more : (k n : ℕ) → 0 < k → 1000 ≤ n → length (separated (k - 1) (n / 1000)) + 4 ≡ length (separated k n)
length_separated_more k n h l =
    omega (arith, ap length (separated_more k n h l), length-append (separated (k - 1) (n / 1000)) (codes "," ++ padded 3 n), length_padded 3 n)

pub spaces_more : (k : ℕ) → 0 < k → spaces (k - 1) ++ codes " " ≡ spaces k
spaces_more zero h = absurd (omega arith)
spaces_more (suc k) h = rw sub-one refl
