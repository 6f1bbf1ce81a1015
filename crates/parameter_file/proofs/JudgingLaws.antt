-- The steps of a whole file's judgement. Assumes nothing.
use Rattle.std.proofs.Common.{◌≡◌, ℕ, zero, suc, ◌≤◌, min, Bool, true, cond, leb, List, [], ◌∷◌, ◌++◌, length, get_or, take, ℤ, is_some, Some, None, Ok, Err, Option, Result, option_map, sym, refl, ap, ◌∙◌, subst, arith}
use Rattle.std.specs.List.{fold, reduce, cons_option, filter_map}
use Rattle.std.proofs.Math.Seq.{take-suc}
use Rattle.std.proofs.lemmas.List.{append-nil, take_all}
use Rattle.std.proofs.lemmas.List.Elements.{filter_map-append}
use Rattle.std.proofs.lemmas.Bool.{cond-true, and_from, le-leb}
use Rattle.parameter_text.specs.declared.terms.Question.TheVariants.{Tier}
use Rattle.parameter_text.specs.Questions.{and_then}
use Rattle.parameter_text.specs.Cuts.{lines}
use Rattle.return_source.specs.declared.terms.Parameters.{Parameters}
use Rattle.parameter_heading.specs.declared.terms.Fault.{Fault}
use Rattle.parameter_heading.specs.declared.terms.Heading.{Heading}
use Rattle.parameter_heading.specs.Lines.{fault_at}
use Rattle.parameter_heading.specs.Headings.{heading}
use Rattle.parameter_file.specs.declared.terms.StockRows.{StockRows}
use Rattle.return_source.specs.declared.terms.ScenarioSet.TheVariants.{Historical, Stress}
use Rattle.file_rules.specs.Rows.{Row, File, returns_in, rate_in, first_in, unfit, fault_line, earlier, earliest}
use Rattle.file_rules.specs.Judged.{most_bytes, stock_places, rows_from, if_even, fitting, sized, after_heading, verdict}
use Rattle.parameter_file.specs.Table.{no_rows, fault_in, Says, Holds}
use Rattle.parameter_file.specs.Checked.{rows_in, JudgedFile, heading_found, indexes, Indexed}
use Rattle.parameter_file.proofs.TestLaws.{says_true}
use Rattle.file_rules.proofs.FileLaws.{earliest_same}

fault_is : (p : Parameters) (kept : List ℤ) (rows : List Row) (s : ℕ) (e : StockRows) → Says p kept rows s e → fault_in e ≡ fault_line rows s
fault_is p kept rows s e h =
    let H = is_some (first_in (returns_in Historical) rows s) in
    let T = is_some (first_in (returns_in Stress) rows s) in
    let F = is_some (first_in rate_in rows s) in
    ap (λ (x : Bool). cond (unfit x (is_some e.stress) (is_some e.rate)) e.line None) h.0.0
    ∙ ap (λ (x : Bool). cond (unfit H x (is_some e.rate)) e.line None) h.1.0
    ∙ ap (λ (o : Option ℕ). cond (unfit H T (is_some o)) e.line None) h.2
    ∙ ap (λ (o : Option ℕ). cond (unfit H T F) o None) h.6

-- the least of the lines that the table's stocks name

pub mapped_same : (o : Option ℕ) → o ≡ option_map (λ x. x) o
mapped_same None = refl
mapped_same (Some x) = refl

fold_push : (y : ℕ) (ys : List ℕ) (v : ℕ) → fold min y (ys ++ v ∷ []) ≡ min (fold min y ys) v
fold_push y [] v = refl
fold_push y (x ∷ xs) v = fold_push (min y x) xs v

least_push : (ys : List ℕ) (v : ℕ) → reduce min (ys ++ v ∷ []) ≡ earlier (reduce min ys) (Some v)
least_push [] v = refl
least_push (y ∷ ys) v = ap Some (fold_push y ys v)

earlier_none : (o : Option ℕ) → earlier o None ≡ o
earlier_none None = refl
earlier_none (Some x) = refl

least_more : (ys : List ℕ) (o : Option ℕ) → reduce min (ys ++ cons_option o []) ≡ earlier (reduce min ys) o
least_more ys None = ap (reduce min) (append-nil ys) ∙ sym (earlier_none (reduce min ys))
least_more ys (Some v) = least_push ys v

module _ (table : List StockRows) where
  least_below : (n : ℕ) → n ≤ length table → reduce min (filter_map fault_in (take n table)) ≡ earliest (λ s. fault_in (get_or table s no_rows)) n
  unfolding earliest
  least_below zero h = refl
  least_below (suc n) h =
      let e = get_or table n no_rows in
      ap (λ (l : List StockRows). reduce min (filter_map fault_in l)) (take-suc table n no_rows h)
      ∙ ap (reduce min) (filter_map-append fault_in (take n table) (e ∷ []))
      ∙ least_more (filter_map fault_in (take n table)) (fault_in e)
      ∙ ap (λ (o : Option ℕ). earlier o (fault_in e)) (least_below n (omega arith))

  pub least_fault : reduce min (filter_map fault_in table) ≡ earliest (λ s. fault_in (get_or table s no_rows)) (length table)
  least_fault = ap (λ (l : List StockRows). reduce min (filter_map fault_in l)) (sym (take_all (length table) table (omega arith))) ∙ least_below (length table) (omega arith)

-- the earliest fault in the table is the earliest of the rows
pub fault_found : (p : Parameters) (kept : List ℤ) (table : List StockRows) (rows : List Row) → length table ≡ stock_places → Holds p kept table rows → earliest (λ s. fault_in (get_or table s no_rows)) (length table) ≡ earliest (fault_line rows) stock_places
fault_found p kept table rows e h =
    ap (earliest (λ s. fault_in (get_or table s no_rows))) e
    ∙ earliest_same (λ s. fault_in (get_or table s no_rows)) (fault_line rows) stock_places (λ s l. fault_is p kept rows s (get_or table s no_rows) (h s (omega arith)))

module _ (bytes : List ℕ) (some : 1 ≤ length bytes) (few : length bytes ≤ most_bytes) where
  size : sized bytes ≡ true
  size = and_from (leb 1 (length bytes)) _ (le-leb 1 (length bytes) some) (le-leb (length bytes) most_bytes few)

  asked : verdict bytes ≡ and_then (heading (lines bytes)) after_heading
  asked = cond-true (sized bytes) _ _ size

  module _ (h : Heading) (ls : List (List ℕ)) (head : Ok (h, ls) ≡ heading (lines bytes)) where
    after : verdict bytes ≡ and_then (rows_from h.parameters 14 [] ls) (λ (rows : List Row). fitting (record { heading = h; rows = rows }))
    after = asked ∙ ap (λ (x : Result (Heading × List (List ℕ)) Fault). and_then x after_heading) (sym head)

    module _ (kept : List ℤ) (table : List StockRows) (places : length table ≡ stock_places) (rows : List Row) (r : rows_from h.parameters 14 [] ls ≡ Ok rows) (holds : Holds h.parameters kept table rows) where
      said : verdict bytes ≡ if_even (earliest (λ s. fault_in (get_or table s no_rows)) (length table)) (record { heading = h; rows = rows })
      said =
          after
          ∙ ap (λ (x : Result (List Row) Fault). and_then x (λ (rs : List Row). fitting (record { heading = h; rows = rs }))) r
          ∙ ap (λ (o : Option ℕ). if_even o (record { heading = h; rows = rows })) (sym (fault_found h.parameters kept table rows places holds))

      pub tier_fault : (k : ℕ) → Some k ≡ earliest (λ s. fault_in (get_or table s no_rows)) (length table) → verdict bytes ≡ Err (fault_at k Tier)
      tier_fault k e = said ∙ ap (λ (o : Option ℕ). if_even o (record { heading = h; rows = rows })) (sym e)

      pub all_passed : None ≡ earliest (λ s. fault_in (get_or table s no_rows)) (length table) → JudgedFile bytes kept table (Ok h)
      all_passed e =
          let ok : verdict bytes ≡ Ok (record { heading = h; rows = rows }) = said ∙ ap (λ (o : Option ℕ). if_even o (record { heading = h; rows = rows })) (sym e) in
          let same : rows_in (verdict bytes) ≡ rows = ap rows_in ok in
          (ok ∙ ap (λ (rs : List Row). Ok (record { heading = h; rows = rs })) (sym same), places, subst (Holds h.parameters kept table) (sym same) holds)

-- what a check that passed leaves
module _ (bytes : List ℕ) (kept : List ℤ) (table : List StockRows) (h : Heading) (j : JudgedFile bytes kept table (Ok h)) where
  pub heading_is : Some h ≡ heading_found (verdict bytes)
  heading_is = sym (ap heading_found j.0)

  pub index_is : Indexed bytes kept table
  index_is s l = ap (λ (v : Result File Fault). indexes v kept table s) j.0 ∙ says_true h.parameters kept (rows_in (verdict bytes)) s (get_or table s no_rows) (j.2 s l)
