-- A post that is refused leaves the places as they were, and one that is accepted puts a live entry behind them.
use Rattle.std.proofs.Common.{◌≡◌, ℕ, ◌<◌, Bool, true, false, cond, List, [], ◌∷◌, ◌++◌, length, Some, None, Ok, Err, Option, Result, ◌⊎◌, sym, refl, ap, ◌∙◌, subst, inl, inr}
use Rattle.std.proofs.lemmas.Bool.{ltb-true}
use Rattle.amounts.specs.Sets.{In}
use Rattle.ledger.specs.declared.terms.Entry.{Entry}
use Rattle.ledger.specs.declared.terms.Posting.{Posting}
use Rattle.ledger.specs.declared.terms.Place.{Place}
use Rattle.ledger.specs.declared.terms.Place.TheVariants.{Free, Live, Cancelled}
use Rattle.ledger.specs.declared.terms.EntryRefusal.{EntryRefusal}
use Rattle.ledger.specs.declared.terms.EntryRefusal.TheVariants.{Number}
use Rattle.ledger.specs.Entries.{numbered, entry_of}
use Rattle.ledger.specs.Table.{number_of_place, found, posted}
use Rattle.ledger.specs.Calls.{posts, post_step, has_room, after_step, after, post_known, post_checked, post_refusal, refused_or, checked_post}
use Rattle.ledger.proofs.Members.{in_map}
use Rattle.ledger.proofs.Steps.{numbers, posted_in, posted_full}
use Rattle.ledger.proofs.PlaceLaws.{Away, at_place, no_place, never_free}

-- the answers to the questions of an accepted post
record Passed (a : Bool) (x : Result Entry EntryRefusal) (o : Option Place) (r : Bool) (e : Entry) : Type 0 where
  numbered : a ≡ true
  entry : x ≡ Ok e
  new : (o ≡ None) ⊎ (o ≡ Some Free)
  room : r ≡ true

abbrev Judged : Bool → Result Entry EntryRefusal → Option Place → Bool → Option EntryRefusal
Judged a x o r = cond a (post_checked x (post_known o r)) (Some Number)

passed : (a : Bool) (x : Result Entry EntryRefusal) (o : Option Place) (r : Bool) (e : Entry) → refused_or (Judged a x o r) x ≡ Ok e → Passed a x o r e
passed false x o r e h = absurd (err_ok Number h)
  where
    err_ok : (y : EntryRefusal) → ◌≡◌ {A = Result Entry EntryRefusal} (Err y) (Ok e) → ⊥
    err_ok y q = cc
passed true (Err y) o r e h = absurd (err_ok h)
  where
    err_ok : ◌≡◌ {A = Result Entry EntryRefusal} (Err y) (Ok e) → ⊥
    err_ok q = cc
passed true (Ok d) None true e h = record { numbered = refl; entry = h; new = inl refl; room = refl }
passed true (Ok d) (Some Free) true e h = record { numbered = refl; entry = h; new = inr refl; room = refl }
passed true (Ok d) None false e h = absurd cc
passed true (Ok d) (Some Free) false e h = absurd cc
passed true (Ok d) (Some (Live n c)) r e h = absurd cc
passed true (Ok d) (Some (Cancelled n)) r e h = absurd cc

-- what an accepted post leaves
pub record Accepted (cap : ℕ) (p : Posting) (e : Entry) (t : List Place) : Type 0 where
  pub has_number : numbered p.number ≡ true
  pub has_entry : entry_of p ≡ Ok e
  pub absent : In p.number (numbers t) → ⊥
  pub room : length t < cap
  pub left : after cap (posts p) t ≡ t ++ Live p.number e ∷ []
  pub not_refused : post_refusal cap p t ≡ None

judged_none : (a : Bool) (x : Result Entry EntryRefusal) (o : Option Place) (r : Bool) (e : Entry) → refused_or (Judged a x o r) x ≡ Ok e → Judged a x o r ≡ None
judged_none a x o r e h = go (Judged a x o r) h
  where
    go : (j : Option EntryRefusal) → refused_or j x ≡ Ok e → j ≡ None
    go None k = refl
    go (Some y) k = absurd cc

pub accepted_post : (cap : ℕ) (p : Posting) (e : Entry) (t : List Place) → checked_post cap p t ≡ Ok e → Accepted cap p e t
accepted_post cap p e t h =
    record {
      has_number = k.numbered;
      has_entry = k.entry;
      absent = away.absent;
      room = ltb-true (length t) cap k.room;
      left = ap (λ b. after_step cap (cond b (post_step n (entry_of p)) None) t) k.numbered ∙ ap (λ x. after_step cap (post_step n x) t) k.entry ∙ ap (λ r. posted r n e t) k.room ∙ away.pushed true e;
      not_refused = judged_none (numbered n) (entry_of p) (found n t) (has_room cap t) e h;
    }
  where
    n : ℕ
    n = p.number

    k : Passed (numbered n) (entry_of p) (found n t) (has_room cap t) e
    k = passed (numbered n) (entry_of p) (found n t) (has_room cap t) e h

    away : Away n t
    away = elim k.new [ inl f ↦ no_place n t f | inr f ↦ absurd (never_free n t k.numbered f) ]

known_post : (n : ℕ) (e : Entry) (t : List Place) (q : Place) → found n t ≡ Some q → (r : Bool) → posted r n e t ≡ t
known_post n e t q f r =
    let a = at_place n t q f in
    posted_in r n e t (subst (λ m. In m (numbers t)) a.is_number (in_map number_of_place q t a.member))

-- what a post leaves, by what is known of it
abbrev Left : ℕ → Bool → Result Entry EntryRefusal → Bool → List Place → List Place
Left n false x r t = t
Left n true (Err y) r t = t
Left n true (Ok e) r t = posted r n e t

left_is : (cap : ℕ) (n : ℕ) (t : List Place) (a : Bool) (x : Result Entry EntryRefusal) → after_step cap (cond a (post_step n x) None) t ≡ Left n a x (has_room cap t) t
left_is cap n t false x = refl
left_is cap n t true (Err y) = refl
left_is cap n t true (Ok e) = refl

left_refused : (n : ℕ) (t : List Place) (y : EntryRefusal) (a : Bool) (x : Result Entry EntryRefusal) (o : Option Place) → found n t ≡ o → (r : Bool) → Judged a x o r ≡ Some y → Left n a x r t ≡ t
left_refused n t y false x o f r k = refl
left_refused n t y true (Err z) o f r k = refl
left_refused n t y true (Ok e) None f true k = cc
left_refused n t y true (Ok e) None f false k = posted_full n e t
left_refused n t y true (Ok e) (Some Free) f true k = cc
left_refused n t y true (Ok e) (Some Free) f false k = posted_full n e t
left_refused n t y true (Ok e) (Some (Live m d)) f r k = known_post n e t (Live m d) f r
left_refused n t y true (Ok e) (Some (Cancelled m)) f r k = known_post n e t (Cancelled m) f r

-- a refused post leaves the places as they were
pub refused_post : (cap : ℕ) (p : Posting) (y : EntryRefusal) (t : List Place) → post_refusal cap p t ≡ Some y → after cap (posts p) t ≡ t
refused_post cap p y t h =
    left_is cap p.number t (numbered p.number) (entry_of p)
    ∙ left_refused p.number t y (numbered p.number) (entry_of p) (found p.number t) refl (has_room cap t) h

-- a post that nothing refuses has an entry
pub has_entry : (cap : ℕ) (p : Posting) (t : List Place) → post_refusal cap p t ≡ None → (e : Entry) × Accepted cap p e t
has_entry cap p t h = go (entry_of p) refl
  where
    judged : (a : Bool) (y : EntryRefusal) (o : Option EntryRefusal) → cond a (post_checked (Err y) o) (Some Number) ≡ None → ⊥
    judged true y o q = cc
    judged false y o q = cc

    go : (x : Result Entry EntryRefusal) → entry_of p ≡ x → (e : Entry) × Accepted cap p e t
    go (Ok e) q = (e, accepted_post cap p e t (ap (λ o. refused_or o (entry_of p)) h ∙ q))
    go (Err y) q =
        absurd (judged (numbered p.number) y (post_known (found p.number t) (has_room cap t)) (ap (λ x. cond (numbered p.number) (post_checked x (post_known (found p.number t) (has_room cap t))) (Some Number)) (sym q) ∙ h))

-- a check that refuses tells the first question that does
pub refused_check : (cap : ℕ) (p : Posting) (y : EntryRefusal) (t : List Place) → checked_post cap p t ≡ Err y → post_refusal cap p t ≡ Some y
refused_check cap p y t h = go (post_refusal cap p t) refl h
  where
    go : (o : Option EntryRefusal) → post_refusal cap p t ≡ o → refused_or o (entry_of p) ≡ Err y → o ≡ Some y
    go (Some z) q k = cc
    go None q k = let a = has_entry cap p t q in absurd (ok_err a.0 (sym a.1.has_entry ∙ k))
      where
        ok_err : (e : Entry) → ◌≡◌ {A = Result Entry EntryRefusal} (Ok e) (Err y) → ⊥
        ok_err e r = cc
