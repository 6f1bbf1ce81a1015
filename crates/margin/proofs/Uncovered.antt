-- The first uncovered instrument, one kind after the other.
use Rattle.std.proofs.Common.{◌≡◌, ℕ, ◌+◌, ◌<◌, ◌≤◌, Bool, not, ◌&&◌, List, length, get_or, drop, Some, None, Option, sym, ap, ◌∙◌}
use Rattle.std.proofs.lemmas.List.{at_drop_more, at_drop_all}
use Rattle.return_source.specs.Meaning.{Meaning}
use Rattle.ledger.specs.declared.terms.Kind.{Kind}
use Rattle.ledger.specs.declared.terms.Kind.TheVariants.{Stock}
use Rattle.ledger.specs.declared.terms.Instrument.{Instrument}
use Rattle.margin_rules.specs.Positions.{all_kinds, all_stocks}
use Rattle.margin_rules.specs.Answers.{is_covered, first_of, instrument_or, first_uncovered, uncovered_of}

module _ (m : Meaning) (held : Kind → ℕ → Bool) (i : ℕ) where
  abbrev left : List Kind → Option Instrument
  left ks = first_uncovered m all_stocks held ks

  -- what is found of the kind at an index
  abbrev found : Option ℕ
  found = first_of (λ x. held (get_or all_kinds i Stock) x && not (is_covered m (get_or all_kinds i Stock) x)) all_stocks

  step : (o : Option ℕ) → i < length all_kinds → o ≡ found → left (drop i all_kinds) ≡ instrument_or (get_or all_kinds i Stock) o (left (drop (i + 1) all_kinds))
  step o l e = at_drop_more left all_kinds i Stock l ∙ ap (λ r. instrument_or (get_or all_kinds i Stock) r (left (drop (i + 1) all_kinds))) (sym e)

  pub uncovered_here : (x : ℕ) → i < length all_kinds → Some x ≡ found → left (drop i all_kinds) ≡ left all_kinds → Some (record { kind = get_or all_kinds i Stock; stock = x }) ≡ uncovered_of m all_stocks held
  unfolding uncovered_of
  uncovered_here x l e inv = sym (step (Some x) l e) ∙ inv

  pub uncovered_more : i < length all_kinds → None ≡ found → left (drop i all_kinds) ≡ left all_kinds → left (drop (i + 1) all_kinds) ≡ left all_kinds
  uncovered_more l e inv = sym (step None l e) ∙ inv

  pub uncovered_none : length all_kinds ≤ i → left (drop i all_kinds) ≡ left all_kinds → None ≡ uncovered_of m all_stocks held
  unfolding uncovered_of
  uncovered_none l inv = sym (at_drop_all left all_kinds i l) ∙ inv
