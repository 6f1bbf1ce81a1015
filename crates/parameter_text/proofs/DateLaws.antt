-- A date passes exactly where it writes a day of the calendar. Assumes nothing.
use Rattle.std.proofs.Common.{◌≡◌, ℕ, ◌≤◌, Bool, true, false, cond, ◌&&◌, leb, List, [], ◌∷◌, length, Some, None, Ok, sym, refl, ap, ◌∙◌, subst, arith}
use Rattle.std.specs.List.{AllByRecursion as All}
use Rattle.std.proofs.ByRecursion.{All-weaker}
use Rattle.std.proofs.lemmas.Bool.{cond-true, and_parts, and_from, leb-true, le-leb}
use Rattle.parameter_text.specs.declared.terms.Question.TheVariants.{Form, Range}
use Rattle.parameter_text.specs.declared.terms.Date.{Date}
use Rattle.parameter_text.specs.Digits.{Digit}
use Rattle.parameter_text.specs.Cuts.{split, spliced}
use Rattle.parameter_text.specs.Dates.{real, WritesDate, sized, written_date, three_parts, dated, date_cell, DatesPass}
use Rattle.parameter_text.proofs.DigitLaws.{digits_true, digits_fact, ok_cond, ok_same, ok_not_err}
use Rattle.parameter_text.proofs.CutLaws.{Apart, split_cut, split_last, spliced_split}

sized_true : (low high : ℕ) (bs : List ℕ) → All Digit bs → low ≤ length bs → length bs ≤ high → sized low high bs ≡ true
sized_true low high bs d a b = and_from (leb low (length bs)) _ (le-leb low (length bs) a) (and_from (leb (length bs) high) _ (le-leb (length bs) high b) (digits_true bs d))

sized_fact : (low high : ℕ) (bs : List ℕ) → sized low high bs ≡ true → All Digit bs × (low ≤ length bs) × (length bs ≤ high)
sized_fact low high bs h =
    let p = and_parts (leb low (length bs)) _ h in
    let q = and_parts (leb (length bs) high) _ p.1 in
    (digits_fact bs q.1, leb-true low (length bs) p.0, leb-true (length bs) high q.0)

digit_apart : (x : ℕ) → Digit x → x ≡ 47 → ⊥
digit_apart x h e = omega arith

no_slash : (xs : List ℕ) → All Digit xs → Apart 47 xs
no_slash = All-weaker Digit (λ x. x ≡ 47 → ⊥) digit_apart

pub date_passes : (bs : List ℕ) (d : Date) → WritesDate bs d → date_cell bs ≡ Ok d
date_passes bs d (day, month, year, w) =
    let cut : split 47 bs ≡ day ∷ month ∷ year ∷ [] = ap (split 47) w.text ∙ split_cut 47 day _ (no_slash day w.day_digits) ∙ ap (λ (l : List (List ℕ)). day ∷ l) (split_cut 47 month year (no_slash month w.month_digits) ∙ ap (λ (l : List (List ℕ)). month ∷ l) (split_last 47 year (no_slash year w.year_digits))) in
    let a = sized_true 1 2 day w.day_digits w.day_one w.day_two in
    let b = sized_true 1 2 month w.month_digits w.month_one w.month_two in
    let e = sized_true 4 4 year w.year_digits (omega (arith, w.year_four)) (omega (arith, w.year_four)) in
    ap (λ (l : List (List ℕ)). dated (three_parts l)) cut
    ∙ ap dated (cond-true (sized 1 2 day && (sized 1 2 month && sized 4 4 year)) (Some (written_date day month year)) None (and_from (sized 1 2 day) _ a (and_from (sized 1 2 month) _ b e)))
    ∙ ap (λ (x : Date). dated (Some x)) (sym w.value)
    ∙ cond-true (real d) _ _ w.is_real

formed_day : (b : Bool) (w d : Date) → dated (cond b (Some w) None) ≡ Ok d → (b ≡ true) × (dated (Some w) ≡ Ok d)
formed_day true w d h = (refl, h)
formed_day false w d h = absurd (ok_not_err d Form h)

parts_date : (ps : List (List ℕ)) (d : Date) → dated (three_parts ps) ≡ Ok d → (day : List ℕ) × (month : List ℕ) × (year : List ℕ) × (ps ≡ day ∷ month ∷ year ∷ []) × (sized 1 2 day && (sized 1 2 month && sized 4 4 year) ≡ true) × (real d ≡ true) × (d ≡ written_date day month year)
parts_date [] d h = absurd (ok_not_err d Form h)
parts_date (a ∷ []) d h = absurd (ok_not_err d Form h)
parts_date (a ∷ b ∷ []) d h = absurd (ok_not_err d Form h)
parts_date (a ∷ b ∷ c ∷ []) d h =
    let w = written_date a b c in
    let one = formed_day (sized 1 2 a && (sized 1 2 b && sized 4 4 c)) w d h in
    let two = ok_cond (real w) (Ok w) Range d one.1 in
    let same : w ≡ d = ok_same w d two.1 in
    (a, b, c, refl, one.0, subst (λ (x : Date). real x ≡ true) same two.0, sym same)
parts_date (a ∷ b ∷ c ∷ e ∷ es) d h = absurd (ok_not_err d Form h)

pub passes_date : (bs : List ℕ) (d : Date) → date_cell bs ≡ Ok d → WritesDate bs d
passes_date bs d h =
    let p = parts_date (split 47 bs) d h in
    let day = p.0 in
    let month = p.1 in
    let year = p.2 in
    let q = and_parts (sized 1 2 day) _ p.4 in
    let q2 = and_parts (sized 1 2 month) _ q.1 in
    let x = sized_fact 1 2 day q.0 in
    let y = sized_fact 1 2 month q2.0 in
    let z = sized_fact 4 4 year q2.1 in (
      day,
      month,
      year,
      record {
        text = spliced_split 47 bs ∙ ap (spliced 47) p.3;
        day_digits = x.0;
        month_digits = y.0;
        year_digits = z.0;
        day_one = x.1;
        day_two = x.2;
        month_one = y.1;
        month_two = y.2;
        year_four = omega (arith, z.1, z.2);
        value = p.6;
        is_real = p.5;
      },
    )

pub dates_pass : DatesPass
dates_pass bs d = (passes_date bs d, date_passes bs d)
