-- What lent places hold while a sequence is offered, for the invariant of whoever offers it.
use Rattle.std.proofs.Common.{◌≡◌, ℕ, ◌+◌, ◌-◌, ◌≤◌, min, Bool, List, [], ◌∷◌, ◌++◌, length, take, drop, replicate, sym, refl, ap, ◌∙◌, arith}
use Rattle.std.proofs.lemmas.List.{take-append-drop, length-take-le, drop-drop, drop-replicate}
use Rattle.amounts.specs.FirstFew.{keep, kept}
use Rattle.first_few.proofs.Kept.{kept_append}

-- xs were offered to n places, of which len are in use
pub record Offered {X : Type 0} (before : X → X → Bool) (n : ℕ) (xs places : List X) (len : ℕ) : Type 0 where
  pub is : take len places ≡ kept before n xs
  pub room : length places ≡ n

-- the same, and the others hold z
pub record Filled {X : Type 0} (before : X → X → Bool) (n : ℕ) (z : X) (xs places : List X) (len : ℕ) : Type 0 where
  pub offered : Offered before n xs places len
  pub spare : drop len places ≡ replicate (n - len) z

module _ {X : Type 0} (before : X → X → Bool) (n : ℕ) where
  pub offered_more : (xs places more : List X) (len now : ℕ) (x : X) → take now more ≡ keep before (length places) (take len places) x → length more ≡ length places → Offered before n xs places len → Offered before n (xs ++ x ∷ []) more now
  offered_more xs places more len now x k l o = record { is = k ∙ (λ j. keep before (o.room j) (o.is j) x) ∙ sym (kept_append before n xs x); room = l ∙ o.room }

  module _ (z : X) where
    pub filled_start : (places : List X) → places ≡ replicate (length places) z → length places ≡ n → Filled before n z [] places 0
    filled_start places e l = record {
      offered = record { is = refl; room = l };
      spare = let k : n - 0 ≡ length places = omega arith in e ∙ ap (λ j. replicate j z) (sym k);
    }

    pub filled_more : (xs places more : List X) (len now : ℕ) (x : X) → len ≤ length places → now ≡ min (len + 1) (length places) → take now more ≡ keep before (length places) (take len places) x → drop now more ≡ drop now places → length more ≡ length places → Filled before n z xs places len → Filled before n z (xs ++ x ∷ []) more now
    filled_more xs places more len now x w c k d l f =
        let r = f.offered.room in
        let up : len + (now - len) ≡ now = omega arith in
        let less : n - len - (now - len) ≡ n - now = omega arith in
        record {
          offered = offered_more xs places more len now x k l f.offered;
          spare = d ∙ ap (λ j. drop j places) (sym up) ∙ sym (drop-drop (now - len) len places) ∙ ap (drop (now - len)) f.spare ∙ drop-replicate (now - len) (n - len) z ∙ ap (λ j. replicate j z) less;
        }

    -- the first of xs, and z in the spare places
    pub filled_all : (xs places : List X) (len : ℕ) → len ≤ length places → Filled before n z xs places len → places ≡ kept before n xs ++ replicate (n - length (kept before n xs)) z
    filled_all xs places len w f =
        let long : len ≡ length (kept before n xs) = sym (length-take-le len places w) ∙ ap length f.offered.is in
        sym (take-append-drop len places) ∙ ap (λ l. l ++ drop len places) f.offered.is
        ∙ ap (λ l. kept before n xs ++ l) (f.spare ∙ ap (λ j. replicate (n - j) z) long)
