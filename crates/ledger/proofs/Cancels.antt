-- A cancel that is refused leaves the places as they were, and one that is accepted marks its number's place, or puts
-- one behind them.
use Rattle.std.proofs.Common.{◌≡◌, ℕ, ◌+◌, ◌<◌, ◌≤◌, Bool, true, false, cond, List, [], ◌∷◌, ◌++◌, length, get_or, set, Some, None, Ok, Err, Option, ◌⊎◌, sym, refl, ap, ◌∙◌, inl, inr, arith}
use Rattle.std.specs.List.{prefix_len}
use Rattle.std.proofs.lemmas.Bool.{ltb-true, lt-ltb}
use Rattle.std.proofs.lemmas.List.{set-get_or}
use Rattle.ledger.specs.declared.terms.Entry.{Entry}
use Rattle.ledger.specs.declared.terms.Place.{Place}
use Rattle.ledger.specs.declared.terms.Place.TheVariants.{Free, Live, Cancelled}
use Rattle.ledger.specs.declared.terms.EntryRefusal.{EntryRefusal}
use Rattle.ledger.specs.declared.terms.EntryRefusal.TheVariants.{Number}
use Rattle.ledger.specs.Entries.{numbered}
use Rattle.ledger.specs.Table.{is_other, found, cancelled, one_live, live_count}
use Rattle.ledger.specs.Calls.{cancel, cancels, has_room, after_step, after, cancel_known, cancel_refusal, refused_or, checked_cancel}
use Rattle.ledger.proofs.Steps.{cancelled_full}
use Rattle.ledger.proofs.PlaceLaws.{Away, at_place, no_place, never_free, live_push, live_set}

abbrev Judged : Bool → Option Place → Bool → Option EntryRefusal
Judged a o r = cond a (cancel_known o r) (Some Number)

-- the answers to the questions of an accepted cancel
record Passed (a : Bool) (o : Option Place) (r : Bool) : Type 0 where
  numbered : a ≡ true
  state : ((n : ℕ) × (e : Entry) × (o ≡ Some (Live n e))) ⊎ (((o ≡ None) ⊎ (o ≡ Some Free)) × (r ≡ true))

passed : (a : Bool) (o : Option Place) (r : Bool) → Judged a o r ≡ None → Passed a o r
passed false o r h = absurd cc
passed true None true h = record { numbered = refl; state = inr (inl refl, refl) }
passed true None false h = absurd cc
passed true (Some Free) true h = record { numbered = refl; state = inr (inr refl, refl) }
passed true (Some Free) false h = absurd cc
passed true (Some (Live n e)) r h = record { numbered = refl; state = inl (n, e, refl) }
passed true (Some (Cancelled n)) r h = absurd cc

-- an accepted cancel ends a live entry, or is the first to be told of its number
pub record Accepted (cap : ℕ) (n : ℕ) (t : List Place) : Type 0 where
  pub has_number : numbered n ≡ true
  pub state : ((e : Entry) × (found n t ≡ Some (Live n e))) ⊎ (Away n t × (length t < cap))

pub accepted_cancel : (cap : ℕ) (n : ℕ) (t : List Place) → cancel_refusal cap n t ≡ None → Accepted cap n t
accepted_cancel cap n t h = record { has_number = k.numbered; state = elim k.state [ inl s ↦ inl (s.1, s.2 ∙ ap (λ m. Some (Live m s.1)) (at_place n t (Live s.0 s.1) s.2).is_number) | inr s ↦ inr (away s.0, ltb-true (length t) cap s.1) ] }
  where
    k : Passed (numbered n) (found n t) (has_room cap t)
    k = passed (numbered n) (found n t) (has_room cap t) h

    away : (found n t ≡ None) ⊎ (found n t ≡ Some Free) → Away n t
    away (inl f) = no_place n t f
    away (inr f) = absurd (never_free n t k.numbered f)

-- what was checked: nothing refuses, and the place is that of the number
pub record Checked (cap : ℕ) (n k : ℕ) (t : List Place) : Type 0 where
  pub not_refused : cancel_refusal cap n t ≡ None
  pub is_place : k ≡ prefix_len (is_other n) t

pub checked : (cap : ℕ) (n k : ℕ) (t : List Place) → checked_cancel cap n t ≡ Ok k → Checked cap n k t
checked cap n k t h = go (cancel_refusal cap n t) refl h
  where
    go : (j : Option EntryRefusal) → cancel_refusal cap n t ≡ j → refused_or j (Ok (prefix_len (is_other n) t)) ≡ Ok k → Checked cap n k t
    go None e g = record { not_refused = e; is_place = cc }
    go (Some y) e g = absurd cc

left : (cap : ℕ) (n : ℕ) (t : List Place) → numbered n ≡ true → after cap (cancels n) t ≡ cancelled (has_room cap t) n t
left cap n t e = ap (λ b. after_step cap (cond b (Some (cancel n)) None) t) e

-- a live entry is ended
pub record Ended (cap : ℕ) (n k : ℕ) (t : List Place) : Type 0 where
  pub left : after cap (cancels n) t ≡ set t k (Cancelled n)
  pub count : live_count (after cap (cancels n) t) + 1 ≡ live_count t

pub ended : (cap : ℕ) (n k : ℕ) (t : List Place) → checked_cancel cap n t ≡ Ok k → k < length t → Ended cap n k t
ended cap n k t h l =
    elim a.state [
      | inl s ↦
          let at = at_place n t (Live n s.0) s.1 in
          let z : after cap (cancels n) t ≡ set t k (Cancelled n) = left cap n t a.has_number ∙ at.marked (has_room cap t) ∙ ap (λ i. set t i (Cancelled n)) (sym c.is_place) in
          let one : one_live (get_or t k Free) ≡ 1 = ap (λ i. one_live (get_or t i Free)) c.is_place ∙ ap one_live (at.here Free) in
          record { left = z; count = omega (arith, live_set t k (Cancelled n) Free l, ap live_count z, one) }
      | inr s ↦ absurd (omega (arith, s.0.behind, c.is_place))
    ]
  where
    c : Checked cap n k t
    c = checked cap n k t h

    a : Accepted cap n t
    a = accepted_cancel cap n t c.not_refused

-- a number without a place takes one
pub record Taken (cap : ℕ) (n k : ℕ) (t : List Place) : Type 0 where
  pub is_last : k ≡ length t
  pub room : length t < cap
  pub left : after cap (cancels n) t ≡ t ++ Cancelled n ∷ []
  pub count : live_count (after cap (cancels n) t) ≡ live_count t

pub taken : (cap : ℕ) (n k : ℕ) (t : List Place) → checked_cancel cap n t ≡ Ok k → length t ≤ k → Taken cap n k t
taken cap n k t h l =
    elim a.state [
      | inl s ↦ absurd (omega (arith, (at_place n t (Live n s.0) s.1).inside, c.is_place))
      | inr s ↦
          let z : after cap (cancels n) t ≡ t ++ Cancelled n ∷ [] = left cap n t a.has_number ∙ s.0.marked (has_room cap t) ∙ ap (λ b. t ++ cond b (Cancelled n ∷ []) []) (lt-ltb (length t) cap s.1) in
          record { is_last = c.is_place ∙ s.0.behind; room = s.1; left = z; count = ap live_count z ∙ live_push t (Cancelled n) ∙ omega arith }
    ]
  where
    c : Checked cap n k t
    c = checked cap n k t h

    a : Accepted cap n t
    a = accepted_cancel cap n t c.not_refused

-- a refused cancel leaves the places as they were
pub refused_cancel : (cap : ℕ) (n : ℕ) (y : EntryRefusal) (t : List Place) → cancel_refusal cap n t ≡ Some y → after cap (cancels n) t ≡ t
refused_cancel cap n y t h = go (numbered n) refl (found n t) refl (has_room cap t) refl h
  where
    go : (a : Bool) → numbered n ≡ a → (o : Option Place) → found n t ≡ o → (r : Bool) → has_room cap t ≡ r → Judged a o r ≡ Some y → after_step cap (cond a (Some (cancel n)) None) t ≡ t
    go false e o f r q k = refl
    go true e None f true q k = absurd cc
    go true e None f false q k = ap (λ b. cancelled b n t) q ∙ cancelled_full n t (no_place n t f).absent
    go true e (Some Free) f true q k = absurd cc
    go true e (Some Free) f false q k = absurd (never_free n t e f)
    go true e (Some (Live m d)) f r q k = absurd cc
    go true e (Some (Cancelled m)) f r q k =
        let at = at_place n t (Cancelled m) f in
        at.marked (has_room cap t) ∙ ap (λ j. set t (prefix_len (is_other n) t) (Cancelled j)) (sym at.is_number) ∙ ap (set t (prefix_len (is_other n) t)) (sym (at.here Free)) ∙ set-get_or t (prefix_len (is_other n) t) Free

-- a check that refuses tells the first question that does
pub refused_check : (cap n : ℕ) (y : EntryRefusal) (t : List Place) → checked_cancel cap n t ≡ Err y → cancel_refusal cap n t ≡ Some y
refused_check cap n y t h = go (cancel_refusal cap n t) h
  where
    go : (o : Option EntryRefusal) → refused_or o (Ok (prefix_len (is_other n) t)) ≡ Err y → o ≡ Some y
    go (Some z) k = cc
    go None k = absurd cc
