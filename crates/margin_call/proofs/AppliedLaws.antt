-- Journals one after the other: what the first leaves is what the others find. Assumes nothing.
use Rattle.std.proofs.Common.{◌≡◌, ℕ, suc, ◌+◌, ◌<◌, List, [], ◌∷◌, ◌++◌, length, get_or, drop, refl, sym, ap, ◌∙◌, arith}
use Rattle.std.proofs.Math.Seq.{drop-cons}
use Rattle.std.proofs.lemmas.List.Concat.{flat_map-cons}
use Rattle.ledger.specs.declared.terms.Place.{Place}
use Rattle.ledger.specs.Calls.{after}
use Rattle.margin_files.specs.declared.terms.JournalCall.{JournalCall}
use Rattle.margin_call.specs.Applied.{call_made, places_after, journal_calls, all_calls}

-- calls behind calls find what those have left
after_both : (n : ℕ) (xs ys : List JournalCall) (t : List Place) → places_after n (xs ++ ys) t ≡ places_after n ys (places_after n xs t)
after_both n [] ys t = refl
after_both n (x ∷ xs) ys t = after_both n xs ys (after n (call_made x) t)

-- once a journal is applied, what is left to do are those behind it
pub after_journal : (n i : ℕ) (texts : List (List ℕ)) (text : List ℕ) (t u : List Place) → i < length texts → text ≡ get_or texts i [] → u ≡ places_after n (journal_calls text) t → places_after n (all_calls (drop (i + 1) texts)) u ≡ places_after n (all_calls (drop i texts)) t
after_journal n i texts text t u h e a =
    let rest = drop (i + 1) texts in
    let next : i + 1 ≡ suc i = omega arith in
    let front : drop i texts ≡ get_or texts i [] ∷ rest = drop-cons texts i [] h ∙ ap (λ (k : ℕ). get_or texts i [] ∷ drop k texts) (sym next) in
    let cut : all_calls (drop i texts) ≡ journal_calls text ++ all_calls rest = ap all_calls front ∙ flat_map-cons journal_calls (get_or texts i []) rest ∙ ap (λ (x : List ℕ). journal_calls x ++ all_calls rest) (sym e) in
    ap (places_after n (all_calls rest)) a ∙ sym (ap (λ (cs : List JournalCall). places_after n cs t) cut ∙ after_both n (journal_calls text) (all_calls rest) t)
