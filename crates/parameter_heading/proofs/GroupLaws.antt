-- Each group of lines passes exactly where its lines give their names what they should. Assumes nothing.
use Rattle.std.proofs.Common.{◌≡◌, ℕ, ◌+◌, List, ◌∷◌, Ok, refl, ap, ◌∙◌, subst, arith}
use Rattle.parameter_text.specs.Dates.{WritesDate, date_cell}
use Rattle.parameter_text.specs.Integers.{Writes, integer}
use Rattle.parameter_text.proofs.DateLaws.{passes_date, date_passes}
use Rattle.parameter_text.proofs.DigitLaws.{ok_same}
use Rattle.parameter_text.proofs.IntegerLaws.{passes_writes, writes_passes}
use Rattle.parameter_heading.specs.declared.terms.Weights.{Weights}
use Rattle.parameter_heading.specs.Lines.{valued_line}
use Rattle.parameter_heading.specs.Names.{valuation_date_name, historical_weight_name, stress_weight_name, historical_count_name, stress_count_name, stv_count_name, historical_level_name, stress_level_name, historical_measure_name, stress_measure_name, rounding, holiday_factor_name}
use Rattle.parameter_heading.specs.Headings.{share_cell, other_weight, tail_count, level_cell, factor_cell, weights, counts, levels, amounts}
use Rattle.parameter_heading.specs.Laid.{Gives, SpellsShare, SpellsFactor, Tail}
use Rattle.parameter_heading.proofs.GivenLines.{then_parts, then_both, line_parts, line_passes, gives_more}
use Rattle.parameter_heading.proofs.ValueLaws.{share_spells, spells_share, factor_spells, spells_factor, weight_parts, weight_passes, level_parts, level_passes}

-- lines 1 to 3

pub record Three (ls : List (List ℕ)) (w : Weights) (rest : List (List ℕ)) : Type 0 where
  pub l1 : List ℕ
  pub l2 : List ℕ
  pub l3 : List ℕ
  pub text : ls ≡ l1 ∷ l2 ∷ l3 ∷ rest
  pub line_1 : Gives l1 valuation_date_name (λ v. WritesDate v w.date)
  pub line_2 : Gives l2 historical_weight_name (SpellsShare w.historical)
  pub line_3 : Gives l3 stress_weight_name (SpellsShare w.stress)
  pub whole : w.historical + w.stress ≡ 10000

pub weights_parts : (ls : List (List ℕ)) (p : Weights × List (List ℕ)) → weights ls ≡ Ok p → Three ls p.0 p.1
weights_parts ls p h =
    let a = then_parts (valued_line 1 valuation_date_name date_cell ls) _ p h in
    let b = then_parts (valued_line 2 historical_weight_name share_cell a.0.1) _ p a.2 in
    let c = then_parts (valued_line 3 stress_weight_name (other_weight b.0.0) b.0.1) _ p b.2 in
    let x = line_parts 1 valuation_date_name date_cell a.0.0 ls a.0.1 a.1 in
    let y = line_parts 2 historical_weight_name share_cell b.0.0 a.0.1 b.0.1 b.1 in
    let z = line_parts 3 stress_weight_name (other_weight b.0.0) c.0.0 b.0.1 c.0.1 c.1 in
    let made : Three ls (record { date = a.0.0; historical = b.0.0; stress = c.0.0 }) c.0.1 = record {
      l1 = x.0;
      l2 = y.0;
      l3 = z.0;
      text = x.1 ∙ ap (λ (m : List (List ℕ)). x.0 ∷ m) (y.1 ∙ ap (λ (m : List (List ℕ)). y.0 ∷ m) z.1);
      line_1 = gives_more _ _ (λ v e. passes_date v a.0.0 e) x.0 valuation_date_name x.2;
      line_2 = gives_more _ _ (λ v e. share_spells b.0.0 v e) y.0 historical_weight_name y.2;
      line_3 = gives_more _ _ (λ v e. (weight_parts b.0.0 c.0.0 v e).0) z.0 stress_weight_name z.2;
      whole = (weight_parts b.0.0 c.0.0 z.2.0 z.2.3).1;
    } in
    subst (λ (q : Weights × List (List ℕ)). Three ls q.0 q.1) (ok_same _ _ c.2) made

pub weights_pass : (ls : List (List ℕ)) (w : Weights) (rest : List (List ℕ)) → Three ls w rest → weights ls ≡ Ok (w, rest)
weights_pass ls w rest t =
    let one = ap (valued_line 1 valuation_date_name date_cell) t.text ∙ line_passes 1 valuation_date_name date_cell w.date (λ v. WritesDate v w.date) (λ v g. date_passes v w.date g) refl t.l1 (t.l2 ∷ t.l3 ∷ rest) t.line_1 in
    let two = line_passes 2 historical_weight_name share_cell w.historical (SpellsShare w.historical) (spells_share w.historical) refl t.l2 (t.l3 ∷ rest) t.line_2 in
    let three = line_passes 3 stress_weight_name (other_weight w.historical) w.stress (SpellsShare w.stress) (weight_passes w.historical w.stress t.whole) refl t.l3 rest t.line_3 in
    then_both (valued_line 1 valuation_date_name date_cell ls) _ (w.date, t.l2 ∷ t.l3 ∷ rest) (w, rest) one (then_both (valued_line 2 historical_weight_name share_cell (t.l2 ∷ t.l3 ∷ rest)) _ (w.historical, t.l3 ∷ rest) (w, rest) two (then_both (valued_line 3 stress_weight_name (other_weight w.historical) (t.l3 ∷ rest)) _ (w.stress, rest) (w, rest) three refl))

-- lines 4 to 6

pub record Counts (ls : List (List ℕ)) (n : ℕ × ℕ) (rest : List (List ℕ)) : Type 0 where
  pub l4 : List ℕ
  pub l5 : List ℕ
  pub l6 : List ℕ
  pub text : ls ≡ l4 ∷ l5 ∷ l6 ∷ rest
  pub line_4 : Gives l4 historical_count_name (λ v. Writes 1 4000 v n.0)
  pub line_5 : Gives l5 stress_count_name (λ v. Writes 1 4000 v n.1)
  pub line_6 : Gives l6 stv_count_name (λ v. (m : ℕ) × Writes 0 100000 v m)

pub counts_parts : (ls : List (List ℕ)) (p : (ℕ × ℕ) × List (List ℕ)) → counts ls ≡ Ok p → Counts ls p.0 p.1
counts_parts ls p h =
    let a = then_parts (valued_line 4 historical_count_name (integer 1 4000) ls) _ p h in
    let b = then_parts (valued_line 5 stress_count_name (integer 1 4000) a.0.1) _ p a.2 in
    let c = then_parts (valued_line 6 stv_count_name (integer 0 100000) b.0.1) _ p b.2 in
    let x = line_parts 4 historical_count_name (integer 1 4000) a.0.0 ls a.0.1 a.1 in
    let y = line_parts 5 stress_count_name (integer 1 4000) b.0.0 a.0.1 b.0.1 b.1 in
    let z = line_parts 6 stv_count_name (integer 0 100000) c.0.0 b.0.1 c.0.1 c.1 in
    let made : Counts ls (a.0.0, b.0.0) c.0.1 = record {
      l4 = x.0;
      l5 = y.0;
      l6 = z.0;
      text = x.1 ∙ ap (λ (m : List (List ℕ)). x.0 ∷ m) (y.1 ∙ ap (λ (m : List (List ℕ)). y.0 ∷ m) z.1);
      line_4 = gives_more _ _ (λ v e. passes_writes 1 4000 v a.0.0 e) x.0 historical_count_name x.2;
      line_5 = gives_more _ _ (λ v e. passes_writes 1 4000 v b.0.0 e) y.0 stress_count_name y.2;
      line_6 = gives_more _ _ (λ v e. (c.0.0, passes_writes 0 100000 v c.0.0 e)) z.0 stv_count_name z.2;
    } in
    subst (λ (q : (ℕ × ℕ) × List (List ℕ)). Counts ls q.0 q.1) (ok_same _ _ c.2) made

pub counts_pass : (ls : List (List ℕ)) (n : ℕ × ℕ) (rest : List (List ℕ)) → Counts ls n rest → counts ls ≡ Ok (n, rest)
counts_pass ls n rest t =
    let v6 = t.line_6.0 in
    let m = t.line_6.3.0 in
    let six' : Gives t.l6 stv_count_name (λ v. Writes 0 100000 v m) = (v6, t.line_6.1, t.line_6.2, t.line_6.3.1) in
    let four = ap (valued_line 4 historical_count_name (integer 1 4000)) t.text ∙ line_passes 4 historical_count_name (integer 1 4000) n.0 (λ v. Writes 1 4000 v n.0) (λ v g. writes_passes 1 4000 v n.0 g) refl t.l4 (t.l5 ∷ t.l6 ∷ rest) t.line_4 in
    let five = line_passes 5 stress_count_name (integer 1 4000) n.1 (λ v. Writes 1 4000 v n.1) (λ v g. writes_passes 1 4000 v n.1 g) refl t.l5 (t.l6 ∷ rest) t.line_5 in
    let six = line_passes 6 stv_count_name (integer 0 100000) m (λ v. Writes 0 100000 v m) (λ v g. writes_passes 0 100000 v m g) refl t.l6 rest six' in
    then_both (valued_line 4 historical_count_name (integer 1 4000) ls) _ (n.0, t.l5 ∷ t.l6 ∷ rest) (n, rest) four (then_both (valued_line 5 stress_count_name (integer 1 4000) (t.l5 ∷ t.l6 ∷ rest)) _ (n.1, t.l6 ∷ rest) (n, rest) five (then_both (valued_line 6 stv_count_name (integer 0 100000) (t.l6 ∷ rest)) _ (m, rest) (n, rest) six refl))

-- lines 7 and 8

pub record Levels (n : ℕ × ℕ) (ls : List (List ℕ)) (l : ℕ × ℕ) (rest : List (List ℕ)) : Type 0 where
  pub l7 : List ℕ
  pub l8 : List ℕ
  pub text : ls ≡ l7 ∷ l8 ∷ rest
  pub line_7 : Gives l7 historical_level_name (SpellsShare l.0)
  pub line_8 : Gives l8 stress_level_name (SpellsShare l.1)
  pub historical_tail : Tail l.0 n.0 (tail_count l.0 n.0)
  pub stress_tail : Tail l.1 n.1 (tail_count l.1 n.1)

pub levels_parts : (n : ℕ × ℕ) (ls : List (List ℕ)) (p : (ℕ × ℕ) × List (List ℕ)) → levels n.0 n.1 ls ≡ Ok p → Levels n ls p.0 p.1
levels_parts n ls p h =
    let a = then_parts (valued_line 7 historical_level_name (level_cell n.0) ls) _ p h in
    let b = then_parts (valued_line 8 stress_level_name (level_cell n.1) a.0.1) _ p a.2 in
    let x = line_parts 7 historical_level_name (level_cell n.0) a.0.0 ls a.0.1 a.1 in
    let y = line_parts 8 stress_level_name (level_cell n.1) b.0.0 a.0.1 b.0.1 b.1 in
    let made : Levels n ls (a.0.0, b.0.0) b.0.1 = record {
      l7 = x.0;
      l8 = y.0;
      text = x.1 ∙ ap (λ (m : List (List ℕ)). x.0 ∷ m) y.1;
      line_7 = gives_more _ _ (λ v e. (level_parts n.0 a.0.0 v e).0) x.0 historical_level_name x.2;
      line_8 = gives_more _ _ (λ v e. (level_parts n.1 b.0.0 v e).0) y.0 stress_level_name y.2;
      historical_tail = (level_parts n.0 a.0.0 x.2.0 x.2.3).1;
      stress_tail = (level_parts n.1 b.0.0 y.2.0 y.2.3).1;
    } in
    subst (λ (q : (ℕ × ℕ) × List (List ℕ)). Levels n ls q.0 q.1) (ok_same _ _ b.2) made

pub levels_pass : (n : ℕ × ℕ) (ls : List (List ℕ)) (l : ℕ × ℕ) (rest : List (List ℕ)) → Levels n ls l rest → levels n.0 n.1 ls ≡ Ok (l, rest)
levels_pass n ls l rest t =
    let seven = ap (valued_line 7 historical_level_name (level_cell n.0)) t.text ∙ line_passes 7 historical_level_name (level_cell n.0) l.0 (SpellsShare l.0) (level_passes n.0 l.0 (tail_count l.0 n.0) t.historical_tail) refl t.l7 (t.l8 ∷ rest) t.line_7 in
    let eight = line_passes 8 stress_level_name (level_cell n.1) l.1 (SpellsShare l.1) (level_passes n.1 l.1 (tail_count l.1 n.1) t.stress_tail) refl t.l8 rest t.line_8 in
    then_both (valued_line 7 historical_level_name (level_cell n.0) ls) _ (l.0, t.l8 ∷ rest) (l, rest) seven (then_both (valued_line 8 stress_level_name (level_cell n.1) (t.l8 ∷ rest)) _ (l.1, rest) (l, rest) eight refl)

-- lines 9 to 12

pub record Amounts (ls : List (List ℕ)) (a : ℕ × ℕ) (rest : List (List ℕ)) : Type 0 where
  pub l9 : List ℕ
  pub l10 : List ℕ
  pub l11 : List ℕ
  pub l12 : List ℕ
  pub text : ls ≡ l9 ∷ l10 ∷ l11 ∷ l12 ∷ rest
  pub line_9 : Gives l9 historical_measure_name (λ v. Writes 4 4 v 4)
  pub line_10 : Gives l10 stress_measure_name (λ v. Writes 4 4 v 4)
  pub line_11 : Gives l11 rounding (λ v. Writes 1 1000000 v a.0)
  pub line_12 : Gives l12 holiday_factor_name (SpellsFactor a.1)

four_only : (n : ℕ) (v : List ℕ) → integer 4 4 v ≡ Ok n → Writes 4 4 v 4
four_only n v e =
    let w = passes_writes 4 4 v n e in
    let four : n ≡ 4 = omega (arith, w.at_least, w.at_most) in
    subst (Writes 4 4 v) four w

pub amounts_parts : (ls : List (List ℕ)) (p : (ℕ × ℕ) × List (List ℕ)) → amounts ls ≡ Ok p → Amounts ls p.0 p.1
amounts_parts ls p h =
    let a = then_parts (valued_line 9 historical_measure_name (integer 4 4) ls) _ p h in
    let b = then_parts (valued_line 10 stress_measure_name (integer 4 4) a.0.1) _ p a.2 in
    let c = then_parts (valued_line 11 rounding (integer 1 1000000) b.0.1) _ p b.2 in
    let d = then_parts (valued_line 12 holiday_factor_name factor_cell c.0.1) _ p c.2 in
    let x = line_parts 9 historical_measure_name (integer 4 4) a.0.0 ls a.0.1 a.1 in
    let y = line_parts 10 stress_measure_name (integer 4 4) b.0.0 a.0.1 b.0.1 b.1 in
    let z = line_parts 11 rounding (integer 1 1000000) c.0.0 b.0.1 c.0.1 c.1 in
    let u = line_parts 12 holiday_factor_name factor_cell d.0.0 c.0.1 d.0.1 d.1 in
    let made : Amounts ls (c.0.0, d.0.0) d.0.1 = record {
      l9 = x.0;
      l10 = y.0;
      l11 = z.0;
      l12 = u.0;
      text = x.1 ∙ ap (λ (m : List (List ℕ)). x.0 ∷ m) (y.1 ∙ ap (λ (m : List (List ℕ)). y.0 ∷ m) (z.1 ∙ ap (λ (m : List (List ℕ)). z.0 ∷ m) u.1));
      line_9 = gives_more _ _ (four_only a.0.0) x.0 historical_measure_name x.2;
      line_10 = gives_more _ _ (four_only b.0.0) y.0 stress_measure_name y.2;
      line_11 = gives_more _ _ (λ v e. passes_writes 1 1000000 v c.0.0 e) z.0 rounding z.2;
      line_12 = gives_more _ _ (λ v e. factor_spells d.0.0 v e) u.0 holiday_factor_name u.2;
    } in
    subst (λ (q : (ℕ × ℕ) × List (List ℕ)). Amounts ls q.0 q.1) (ok_same _ _ d.2) made

pub amounts_pass : (ls : List (List ℕ)) (a : ℕ × ℕ) (rest : List (List ℕ)) → Amounts ls a rest → amounts ls ≡ Ok (a, rest)
amounts_pass ls a rest t =
    let nine = ap (valued_line 9 historical_measure_name (integer 4 4)) t.text ∙ line_passes 9 historical_measure_name (integer 4 4) 4 (λ v. Writes 4 4 v 4) (λ v g. writes_passes 4 4 v 4 g) refl t.l9 (t.l10 ∷ t.l11 ∷ t.l12 ∷ rest) t.line_9 in
    let ten = line_passes 10 stress_measure_name (integer 4 4) 4 (λ v. Writes 4 4 v 4) (λ v g. writes_passes 4 4 v 4 g) refl t.l10 (t.l11 ∷ t.l12 ∷ rest) t.line_10 in
    let eleven = line_passes 11 rounding (integer 1 1000000) a.0 (λ v. Writes 1 1000000 v a.0) (λ v g. writes_passes 1 1000000 v a.0 g) refl t.l11 (t.l12 ∷ rest) t.line_11 in
    let twelve = line_passes 12 holiday_factor_name factor_cell a.1 (SpellsFactor a.1) (spells_factor a.1) refl t.l12 rest t.line_12 in
    then_both (valued_line 9 historical_measure_name (integer 4 4) ls) _ (4, t.l10 ∷ t.l11 ∷ t.l12 ∷ rest) (a, rest) nine (then_both (valued_line 10 stress_measure_name (integer 4 4) (t.l10 ∷ t.l11 ∷ t.l12 ∷ rest)) _ (4, t.l11 ∷ t.l12 ∷ rest) (a, rest) ten (then_both (valued_line 11 rounding (integer 1 1000000) (t.l11 ∷ t.l12 ∷ rest)) _ (a.0, t.l12 ∷ rest) (a, rest) eleven (then_both (valued_line 12 holiday_factor_name factor_cell (t.l12 ∷ rest)) _ (a.1, rest) (a, rest) twelve refl)))
