-- Positions offered to a list of the greatest, one after the other.
use Rattle.std.proofs.Common.{◌≡◌, ℕ, ◌+◌, ◌-◌, ◌≤◌, min, Bool, List, [], ◌∷◌, ◌++◌, length, take, drop, replicate, fold, sym, ap, ◌∙◌, arith}
use Rattle.std.proofs.lemmas.List.{take-append-drop, length-take-le, drop-drop, drop-replicate}
use Rattle.std.proofs.lemmas.List.Sums.{fold-append}
use Rattle.amounts.specs.FirstFew.{keep, kept}
use Rattle.margin_rules.specs.Answers.{padded}

module _ {X : Type 0} (before : X → X → Bool) where
  -- what is kept so far is on its way from the start to the end, and the places beyond it are as they were
  pub record OnTheWay (n : ℕ) (start : List X) (at : ℕ) (left all : List X) (old : List X) (len : ℕ) (places : List X) : Type 0 where
    pub way : fold (keep before n) (take len places) left ≡ fold (keep before n) start all
    pub more : at ≤ len
    pub spare : drop len places ≡ drop len old
    pub room : length places ≡ n

  module _ (n : ℕ) (start : List X) (at : ℕ) (all old : List X) where
    -- where nothing is left to offer, or more is left under another name
    pub way_as : (left less : List X) (len : ℕ) (places : List X) → fold (keep before n) (take len places) left ≡ fold (keep before n) (take len places) less → OnTheWay n start at left all old len places → OnTheWay n start at less all old len places
    way_as left less len places e w = record { way = sym e ∙ w.way; more = w.more; spare = w.spare; room = w.room }

    -- one is offered
    pub way_more : (x : X) (left : List X) (len now : ℕ) (places more : List X) → len ≤ length places → now ≡ min (len + 1) (length places) → take now more ≡ keep before (length places) (take len places) x → drop now more ≡ drop now places → length more ≡ length places → OnTheWay n start at (x ∷ left) all old len places → OnTheWay n start at left all old now more
    way_more x left len now places more l c k d r w =
        let m = w.room in
        let up : len + (now - len) ≡ now = omega arith in
        record {
          way = ap (λ s. fold (keep before n) s left) (k ∙ ap (λ j. keep before j (take len places) x) m) ∙ w.way;
          more = omega (arith, w.more);
          spare =
              d ∙ ap (λ j. drop j places) (sym up) ∙ sym (drop-drop (now - len) len places) ∙ ap (drop (now - len)) w.spare
              ∙ drop-drop (now - len) len old ∙ ap (λ j. drop j old) up;
          room = r ∙ m;
        }

    -- some are offered, one after the other
    pub way_all : (these left : List X) (len now : ℕ) (places more : List X) → len ≤ now → take now more ≡ fold (keep before (length places)) (take len places) these → drop now more ≡ drop now places → length more ≡ length places → OnTheWay n start at (these ++ left) all old len places → OnTheWay n start at left all old now more
    way_all these left len now places more u k d r w =
        let m = w.room in
        let up : len + (now - len) ≡ now = omega arith in
        record {
          way =
              ap (λ s. fold (keep before n) s left) (k ∙ ap (λ j. fold (keep before j) (take len places) these) m)
              ∙ sym (fold-append (keep before n) (take len places) these left) ∙ w.way;
          more = omega (arith, w.more);
          spare =
              d ∙ ap (λ j. drop j places) (sym up) ∙ sym (drop-drop (now - len) len places) ∙ ap (drop (now - len)) w.spare
              ∙ drop-drop (now - len) len old ∙ ap (λ j. drop j old) up;
          room = r ∙ m;
        }

  -- at the end the places hold what is kept of all, and behind it what they were filled with
  pub way_end : (n : ℕ) (z : X) (all old : List X) (len : ℕ) (places : List X) → old ≡ replicate n z → len ≤ length places → OnTheWay n [] 0 [] all old len places → places ≡ padded n z (kept before n all)
  way_end n z all old len places o l w =
      let long : len ≡ length (kept before n all) = sym (length-take-le len places l) ∙ ap length w.way in
      sym (take-append-drop len places) ∙ ap (λ s. s ++ drop len places) w.way
      ∙ ap (λ s. kept before n all ++ s) (w.spare ∙ ap (drop len) o ∙ drop-replicate len n z ∙ ap (λ j. replicate (n - j) z) long)
