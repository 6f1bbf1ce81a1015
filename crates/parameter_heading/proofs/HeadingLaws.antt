-- A heading is found exactly where the first thirteen lines lay it down, and it is sound. Assumes nothing.
use Rattle.std.proofs.Common.{◌≡◌, ℕ, max, List, ◌∷◌, Ok, sym, refl, ap, ◌∙◌, subst}
use Rattle.parameter_text.proofs.DigitLaws.{ok_same}
use Rattle.parameter_heading.specs.declared.terms.Heading.{Heading}
use Rattle.parameter_heading.specs.declared.terms.Weights.{Weights}
use Rattle.parameter_heading.specs.Headings.{tail_count, weights, counts, levels, amounts, titles, headed, heading}
use Rattle.parameter_heading.specs.Laid.{Tail, LaysHeading, HeadingsPass, TailFigures, Sound}
use Rattle.parameter_heading.proofs.GivenLines.{then_parts, then_both}
use Rattle.parameter_heading.proofs.ValueLaws.{at_most, tail_is, tail_within}
use Rattle.parameter_heading.proofs.TitleLaws.{titles_parts, titles_pass}
use Rattle.parameter_heading.proofs.GroupLaws.{weights_parts, weights_pass, counts_parts, counts_pass, levels_parts, levels_pass, amounts_parts, amounts_pass}

pub passes_lays : (ls rest : List (List ℕ)) (h : Heading) → heading ls ≡ Ok (h, rest) → LaysHeading ls h rest
passes_lays ls rest h e =
    let w = then_parts (weights ls) _ (h, rest) e in
    let n = then_parts (counts w.0.1) _ (h, rest) w.2 in
    let l = then_parts (levels n.0.0.0 n.0.0.1 n.0.1) _ (h, rest) n.2 in
    let a = then_parts (amounts l.0.1) _ (h, rest) l.2 in
    let t = then_parts (titles (max n.0.0.0 n.0.0.1) a.0.1) _ (h, rest) a.2 in
    let x = weights_parts ls w.0 w.1 in
    let y = counts_parts w.0.1 n.0 n.1 in
    let z = levels_parts n.0.0 n.0.1 l.0 l.1 in
    let u = amounts_parts l.0.1 a.0 a.1 in
    let v = titles_parts (max n.0.0.0 n.0.0.1) a.0.1 t.0 t.1 in
    let made : LaysHeading ls (headed w.0.0 n.0.0 l.0.0 a.0.0) t.0 = record {
      l1 = x.l1;
      l2 = x.l2;
      l3 = x.l3;
      l4 = y.l4;
      l5 = y.l5;
      l6 = y.l6;
      l7 = z.l7;
      l8 = z.l8;
      l9 = u.l9;
      l10 = u.l10;
      l11 = u.l11;
      l12 = u.l12;
      l13 = v.0;
      text = x.text ∙ ap (λ (m : List (List ℕ)). x.l1 ∷ x.l2 ∷ x.l3 ∷ m) (y.text ∙ ap (λ (m : List (List ℕ)). y.l4 ∷ y.l5 ∷ y.l6 ∷ m) (z.text ∙ ap (λ (m : List (List ℕ)). z.l7 ∷ z.l8 ∷ m) (u.text ∙ ap (λ (m : List (List ℕ)). u.l9 ∷ u.l10 ∷ u.l11 ∷ u.l12 ∷ m) v.2)));
      line_1 = x.line_1;
      line_2 = x.line_2;
      line_3 = x.line_3;
      whole = x.whole;
      line_4 = y.line_4;
      line_5 = y.line_5;
      line_6 = y.line_6;
      line_7 = z.line_7;
      line_8 = z.line_8;
      historical_tail = z.historical_tail;
      stress_tail = z.stress_tail;
      line_9 = u.line_9;
      line_10 = u.line_10;
      line_11 = u.line_11;
      line_12 = u.line_12;
      line_13 = (v.1, v.3);
    } in
    subst (λ (q : Heading × List (List ℕ)). LaysHeading ls q.0 q.1) (ok_same _ _ t.2) made

-- a heading with these tails
abbrev with_tails : Heading → ℕ → ℕ → Heading
with_tails h t u = record {
  date = h.date;
  historical_level = h.historical_level;
  stress_level = h.stress_level;
  parameters = record {
    historical = record { weight = h.parameters.historical.weight; count = h.parameters.historical.count; tail = t };
    stress = record { weight = h.parameters.stress.weight; count = h.parameters.stress.count; tail = u };
    step = h.parameters.step;
    holiday_factor = h.parameters.holiday_factor;
  };
}

pub lays_passes : (ls rest : List (List ℕ)) (h : Heading) → LaysHeading ls h rest → heading ls ≡ Ok (h, rest)
lays_passes ls rest h t =
    let hist = h.parameters.historical in
    let stress = h.parameters.stress in
    let w : Weights = record { date = h.date; historical = hist.weight.ten_thousandths; stress = stress.weight.ten_thousandths } in
    let n : ℕ × ℕ = (hist.count, stress.count) in
    let l : ℕ × ℕ = (h.historical_level.ten_thousandths, h.stress_level.ten_thousandths) in
    let a : ℕ × ℕ = (h.parameters.step, h.parameters.holiday_factor) in
    let r13 = t.l13 ∷ rest in
    let r9 = t.l9 ∷ t.l10 ∷ t.l11 ∷ t.l12 ∷ r13 in
    let r7 = t.l7 ∷ t.l8 ∷ r9 in
    let r4 = t.l4 ∷ t.l5 ∷ t.l6 ∷ r7 in
    let same_h = tail_is l.0 n.0 hist.tail t.historical_tail in
    let same_s = tail_is l.1 n.1 stress.tail t.stress_tail in
    let ew = weights_pass ls w r4 (record { l1 = t.l1; l2 = t.l2; l3 = t.l3; text = t.text; line_1 = t.line_1; line_2 = t.line_2; line_3 = t.line_3; whole = t.whole }) in
    let en = counts_pass r4 n r7 (record { l4 = t.l4; l5 = t.l5; l6 = t.l6; text = refl; line_4 = t.line_4; line_5 = t.line_5; line_6 = t.line_6 }) in
    let el = levels_pass n r7 l r9 (record { l7 = t.l7; l8 = t.l8; text = refl; line_7 = t.line_7; line_8 = t.line_8; historical_tail = subst (Tail l.0 n.0) (sym same_h) t.historical_tail; stress_tail = subst (Tail l.1 n.1) (sym same_s) t.stress_tail }) in
    let ea = amounts_pass r9 a r13 (record { l9 = t.l9; l10 = t.l10; l11 = t.l11; l12 = t.l12; text = refl; line_9 = t.line_9; line_10 = t.line_10; line_11 = t.line_11; line_12 = t.line_12 }) in
    let et = titles_pass (max n.0 n.1) t.l13 rest t.line_13.0 t.line_13.1 in
    let last : headed w n l a ≡ h = ap (λ (x : ℕ). with_tails h x (tail_count l.1 n.1)) same_h ∙ ap (with_tails h hist.tail) same_s in
    then_both (weights ls) _ (w, r4) (h, rest) ew (then_both (counts r4) _ (n, r7) (h, rest) en (then_both (levels n.0 n.1 r7) _ (l, r9) (h, rest) el (then_both (amounts r9) _ (a, r13) (h, rest) ea (then_both (titles (max n.0 n.1) r13) _ rest (h, rest) et (ap (λ (x : Heading). Ok (x, rest)) last)))))

pub headings_pass : HeadingsPass
headings_pass ls rest h = (passes_lays ls rest h, lays_passes ls rest h)

pub tail_figures : TailFigures
tail_figures = (refl, refl)

-- a heading that the lines lay down is sound
pub lays_sound : (ls rest : List (List ℕ)) (h : Heading) → LaysHeading ls h rest → Sound h
lays_sound ls rest h t =
    let hist = h.parameters.historical in
    let stress = h.parameters.stress in
    record {
      historical = record {
        weight = at_most hist.weight.ten_thousandths 10000 t.line_2.3.3.at_most;
        some = t.line_4.3.at_least;
        few = t.line_4.3.at_most;
        tail_some = t.historical_tail.some;
        tail_few = t.historical_tail.few;
        tail_within = tail_within h.historical_level.ten_thousandths hist.count hist.tail t.historical_tail;
      };
      stress = record {
        weight = at_most stress.weight.ten_thousandths 10000 t.line_3.3.3.at_most;
        some = t.line_5.3.at_least;
        few = t.line_5.3.at_most;
        tail_some = t.stress_tail.some;
        tail_few = t.stress_tail.few;
        tail_within = tail_within h.stress_level.ten_thousandths stress.count stress.tail t.stress_tail;
      };
      whole = t.whole;
      step_some = t.line_11.3.at_least;
      step_few = t.line_11.3.at_most;
      factor = at_most h.parameters.holiday_factor 10000000000 t.line_12.3.3.at_most;
    }

pub heading_sound : (ls rest : List (List ℕ)) (h : Heading) → heading ls ≡ Ok (h, rest) → Sound h
heading_sound ls rest h e = lays_sound ls rest h (passes_lays ls rest h e)
