-- What a write to the front of a table does to the places used.
use Rattle.std.proofs.Common.{◌≡◌, ℕ, zero, suc, ◌+◌, ◌<◌, ◌≤◌, Bool, true, false, cond, List, [], ◌∷◌, ◌++◌, length, take, set, Some, None, Ok, Err, Option, sym, refl, ap, ◌∙◌, arith}
use Rattle.std.proofs.lemmas.List.{length-take-le, take_more_set}
use Rattle.std.proofs.lemmas.Bool.{and_from, and_parts}
use Rattle.ledger.specs.declared.terms.Entry.{Entry}
use Rattle.ledger.specs.declared.terms.Posting.{Posting}
use Rattle.ledger.specs.declared.terms.Place.{Place}
use Rattle.ledger.specs.declared.terms.Place.TheVariants.{Live, Cancelled}
use Rattle.ledger.specs.declared.terms.EntryRefusal.{EntryRefusal}
use Rattle.ledger.specs.declared.terms.EntryRefusal.TheVariants.{Size}
use Rattle.ledger.specs.declared.terms.Instrument.{Instrument}
use Rattle.ledger.specs.declared.terms.Kind.{Kind}
use Rattle.ledger.specs.Kinds.{kind_of}
use Rattle.ledger.specs.Entries.{numbered, stocked, sized, instrument_by, entry_by, entry_of}
use Rattle.ledger.specs.Table.{live_count, sound, sound_place, sound_entry}
use Rattle.ledger.specs.Calls.{posts, cancels, after, checked_post, checked_cancel, post_answer, cancel_answer, refused_or}
use Rattle.ledger.proofs.PlaceLaws.{live_push, live_at_most}
use Rattle.ledger.proofs.Posts.{Accepted as PostAccepted, accepted_post, refused_post, refused_check as refused_post_check}
use Rattle.ledger.proofs.Cancels.{checked, Ended, ended, Taken, taken, refused_cancel, accepted_cancel, refused_check as refused_cancel_check}

-- ---- the tests of all places

sound_push : (t : List Place) (p : Place) → sound t ≡ true → sound_place p ≡ true → sound (t ++ p ∷ []) ≡ true
sound_push [] p a b = and_from (sound_place p) true b refl
sound_push (q ∷ t) p a b = let k = and_parts (sound_place q) (sound t) a in and_from (sound_place q) (sound (t ++ p ∷ [])) k.0 (sound_push t p k.1 b)

sound_set : (t : List Place) (k : ℕ) (p : Place) → sound t ≡ true → sound_place p ≡ true → sound (set t k p) ≡ true
sound_set [] k p a b = a
sound_set (q ∷ t) zero p a b = let k = and_parts (sound_place q) (sound t) a in and_from (sound_place p) (sound t) b k.1
sound_set (q ∷ t) (suc k) p a b = let j = and_parts (sound_place q) (sound t) a in and_from (sound_place q) (sound (set t k p)) j.0 (sound_set t k p j.1 b)

-- a write ahead of the end of the front is a write to the front
take_set : {X : Type 0} (u : ℕ) (xs : List X) (k : ℕ) (s : X) → take u (set xs k s) ≡ set (take u xs) k s
take_set zero xs k s = refl
take_set (suc u) [] k s = refl
take_set (suc u) (x ∷ xs) zero s = refl
take_set (suc u) (x ∷ xs) (suc k) s = ap (λ l. x ∷ l) (take_set u xs k s)

-- ---- an entry that is let in

entry_sound : (p : Posting) (e : Entry) → entry_of p ≡ Ok e → sound_entry e ≡ true
entry_sound p e h = by_kind (kind_of p.kind) h
  where
    by_size : (i : Instrument) → stocked i.stock ≡ true → (b : Bool) → sized p.quantity p.contract_value p.market_value ≡ b → cond b (Ok (record { instrument = i; quantity = p.quantity; contract_value = p.contract_value; market_value = p.market_value })) (Err Size) ≡ Ok e → sound_entry e ≡ true
    by_size i s true z k =
        let q : record { instrument = i; quantity = p.quantity; contract_value = p.contract_value; market_value = p.market_value } ≡ e = cc in
        ap sound_entry (sym q) ∙ and_from (stocked i.stock) (sized p.quantity p.contract_value p.market_value) s z
    by_size i s false z k = absurd cc

    by_stock : (k : Kind) (b : Bool) → stocked p.stock ≡ b → entry_by (cond b (Some (record { kind = k; stock = p.stock })) None) p.quantity p.contract_value p.market_value ≡ Ok e → sound_entry e ≡ true
    by_stock k true s g = by_size (record { kind = k; stock = p.stock }) s (sized p.quantity p.contract_value p.market_value) refl g
    by_stock k false s g = absurd cc

    by_kind : (o : Option Kind) → entry_by (instrument_by p.stock o) p.quantity p.contract_value p.market_value ≡ Ok e → sound_entry e ≡ true
    by_kind None g = absurd cc
    by_kind (Some k) g = by_stock k (stocked p.stock) refl g

module _ (xs : List Place) (u : ℕ) (w : u ≤ length xs) where
  abbrev t : List Place
  t = take u xs

  abbrev cap : ℕ
  cap = length xs

  size : length t ≡ u
  size = length-take-le u xs w

  pub few_live : live_count t ≤ u
  few_live = omega (arith, live_at_most t, size)

  -- a place written behind the front joins it
  pushed : (q : Place) → u < cap → take (u + 1) (set xs u q) ≡ t ++ q ∷ []
  pushed q h = take_more_set xs u q h

  -- ---- a post

  module _ (p : Posting) where
    pub record Stored (e : Entry) : Type 0 where
      pub room : u < length xs
      pub places : take (u + 1) (set xs u (Live p.number e)) ≡ after (length xs) (posts p) (take u xs)
      pub count : live_count (take (u + 1) (set xs u (Live p.number e))) ≡ live_count (take u xs) + 1
      pub answer : post_answer (length xs) p (take u xs) ≡ Ok (live_count (take u xs) + 1)
      pub fine : sound (take u xs) ≡ true → sound (take (u + 1) (set xs u (Live p.number e))) ≡ true

    pub stored : (e : Entry) → checked_post (length xs) p (take u xs) ≡ Ok e → Stored e
    stored e h =
        let a : PostAccepted cap p e t = accepted_post cap p e t h in
        let r : u < cap = omega (arith, a.room, size) in
        let l : take (u + 1) (set xs u (Live p.number e)) ≡ t ++ Live p.number e ∷ [] = pushed (Live p.number e) r in
        let n : live_count (t ++ Live p.number e ∷ []) ≡ live_count t + 1 = live_push t (Live p.number e) in
        record {
          room = r;
          places = l ∙ sym a.left;
          count = ap live_count l ∙ n;
          answer = ap (λ o. refused_or o (Ok (live_count (after cap (posts p) t)))) a.not_refused ∙ ap (λ z. Ok (live_count z)) a.left ∙ ap Ok n;
          fine = λ f. ap sound l ∙ sound_push t (Live p.number e) f (and_from (numbered p.number) (sound_entry e) a.has_number (entry_sound p e a.has_entry));
        }

    pub record NotStored (y : EntryRefusal) : Type 0 where
      pub places : take u xs ≡ after (length xs) (posts p) (take u xs)
      pub answer : post_answer (length xs) p (take u xs) ≡ Err y

    pub not_stored : (y : EntryRefusal) → checked_post (length xs) p (take u xs) ≡ Err y → NotStored y
    not_stored y h =
        let r = refused_post_check cap p y t h in
        record { places = sym (refused_post cap p y t r); answer = ap (λ o. refused_or o (Ok (live_count (after cap (posts p) t)))) r }

  -- ---- a cancel

  module _ (n : ℕ) where
    number_of_accepted : (k : ℕ) → checked_cancel cap n t ≡ Ok k → numbered n ≡ true
    number_of_accepted k h = (accepted_cancel cap n t (checked cap n k t h).not_refused).has_number

    answered : (k : ℕ) → checked_cancel cap n t ≡ Ok k → cancel_answer cap n t ≡ Ok (live_count (after cap (cancels n) t))
    answered k h = ap (λ o. refused_or o (Ok (live_count (after cap (cancels n) t)))) (checked cap n k t h).not_refused

    -- the place of a live entry is marked
    pub record Marked (k : ℕ) : Type 0 where
      pub places : take u (set xs k (Cancelled n)) ≡ after (length xs) (cancels n) (take u xs)
      pub count : live_count (take u (set xs k (Cancelled n))) + 1 ≡ live_count (take u xs)
      pub answer : cancel_answer (length xs) n (take u xs) ≡ Ok (live_count (take u (set xs k (Cancelled n))))
      pub fine : sound (take u xs) ≡ true → sound (take u (set xs k (Cancelled n))) ≡ true

    pub marked : (k : ℕ) → checked_cancel (length xs) n (take u xs) ≡ Ok k → k < u → Marked k
    marked k h l =
        let a : Ended cap n k t = ended cap n k t h (omega (arith, size)) in
        let z : take u (set xs k (Cancelled n)) ≡ set t k (Cancelled n) = take_set u xs k (Cancelled n) in
        let p : take u (set xs k (Cancelled n)) ≡ after cap (cancels n) t = z ∙ sym a.left in
        record {
          places = p;
          count = ap (λ x. live_count x + 1) p ∙ a.count;
          answer = answered k h ∙ ap (λ x. Ok (live_count x)) (sym p);
          fine = λ f. ap sound z ∙ sound_set t k (Cancelled n) f (number_of_accepted k h);
        }

    -- a place is taken for a number that had none
    pub record New : Type 0 where
      pub room : u < length xs
      pub places : take (u + 1) (set xs u (Cancelled n)) ≡ after (length xs) (cancels n) (take u xs)
      pub count : live_count (take (u + 1) (set xs u (Cancelled n))) ≡ live_count (take u xs)
      pub answer : cancel_answer (length xs) n (take u xs) ≡ Ok (live_count (take u xs))
      pub fine : sound (take u xs) ≡ true → sound (take (u + 1) (set xs u (Cancelled n))) ≡ true

    pub new : (k : ℕ) → checked_cancel (length xs) n (take u xs) ≡ Ok k → u ≤ k → New
    new k h l =
        let a : Taken cap n k t = taken cap n k t h (omega (arith, size)) in
        let r : u < cap = omega (arith, a.room, size) in
        let z : take (u + 1) (set xs u (Cancelled n)) ≡ t ++ Cancelled n ∷ [] = pushed (Cancelled n) r in
        record {
          room = r;
          places = z ∙ sym a.left;
          count = ap live_count (z ∙ sym a.left) ∙ a.count;
          answer = answered k h ∙ ap Ok a.count;
          fine = λ f. ap sound z ∙ sound_push t (Cancelled n) f (number_of_accepted k h);
        }

    pub record NotCancelled (y : EntryRefusal) : Type 0 where
      pub places : take u xs ≡ after (length xs) (cancels n) (take u xs)
      pub answer : cancel_answer (length xs) n (take u xs) ≡ Err y

    pub not_cancelled : (y : EntryRefusal) → checked_cancel (length xs) n (take u xs) ≡ Err y → NotCancelled y
    not_cancelled y h =
        let r = refused_cancel_check cap n y t h in
        record { places = sym (refused_cancel cap n y t r); answer = ap (λ o. refused_or o (Ok (live_count (after cap (cancels n) t)))) r }
