-- The table tells what was accepted. Kept along a run (Told): an accepted post puts its entry into a place of its own,
-- an accepted cancel marks the place of its number, and a refused call leaves all as it was.
use Rattle.std.proofs.Common.{◌≡◌, ℕ, true, cond, ◌⊎◌, List, [], ◌∷◌, ◌++◌, Some, None, Option, sym, refl, ap, ◌∙◌, subst, inl, inr}
use Rattle.std.specs.List.{cons_option}
use Rattle.amounts.specs.Sets.{In, Apart}
use Rattle.ledger.specs.declared.terms.Entry.{Entry}
use Rattle.ledger.specs.declared.terms.Place.{Place}
use Rattle.ledger.specs.declared.terms.Place.TheVariants.{Free, Live, Cancelled}
use Rattle.ledger.specs.declared.terms.EntryRefusal.{EntryRefusal}
use Rattle.ledger.specs.Entries.{entry_of}
use Rattle.ledger.specs.Table.{number_of_place, cancelled}
use Rattle.ledger.specs.Calls.{Call, posts, cancels, assesses, Step, post, cancel, post_step, step_of, after, runs, post_refusal, cancel_refusal}
use Rattle.ledger.specs.Laws.{unless_refused, accepted_step, accepted, LiveIsPostedAndNotCancelled}
use Rattle.ledger.proofs.Members.{in_map}
use Rattle.ledger.proofs.Steps.{numbers, cancelled_cases, cancelled_stays, cancelled_marks}
use Rattle.ledger.proofs.Order.{onto, in_onto, onto_in, post_not_cancel, cancel_same}
use Rattle.ledger.proofs.Posts.{Accepted as PostAccepted, has_entry, refused_post}
use Rattle.ledger.proofs.Cancels.{accepted_cancel, refused_cancel}
use Rattle.ledger.proofs.Kept.{runs_apart, step_marked, cancel_leaves}

record Told (h : List Step) (t : List Place) : Type 0 where
  apart : Apart (numbers t)
  live_posted : (n : ℕ) (e : Entry) → In (Live n e) t → In (post n e) h
  live_kept : (n : ℕ) (e : Entry) → In (Live n e) t → In (cancel n) h → ⊥
  posted_live : (n : ℕ) (e : Entry) → In (post n e) h → (In (cancel n) h → ⊥) → In (Live n e) t
  marked : (n : ℕ) → In (Cancelled n) t → In (cancel n) h
  marks : (n : ℕ) → In (cancel n) h → In (Cancelled n) t
  none_free : In Free t → ⊥

-- ---- an accepted post

live_same : (m n : ℕ) (d e : Entry) → post m d ≡ post n e → Live m d ≡ Live n e
live_same m n d e q = cc

post_of_live : (m n : ℕ) (d e : Entry) → Live m d ≡ Live n e → post m d ≡ post n e
post_of_live m n d e q = cc

number_of_live : (m n : ℕ) (d e : Entry) → Live m d ≡ Live n e → m ≡ n
number_of_live m n d e q = cc

cancelled_not_live : (m n : ℕ) (e : Entry) → Cancelled m ≡ Live n e → ⊥
cancelled_not_live m n e q = cc

free_not_live : (n : ℕ) (e : Entry) → Free ≡ Live n e → ⊥
free_not_live n e q = cc

free_not_cancelled : (n : ℕ) → Free ≡ Cancelled n → ⊥
free_not_cancelled n q = cc

cancelled_same : (m n : ℕ) → Cancelled m ≡ Cancelled n → m ≡ n
cancelled_same m n q = cc

in_push : (q p : Place) (t : List Place) → In q (t ++ p ∷ []) → In q t ⊎ (q ≡ p)
in_push q p [] (inl e) = inr e
in_push q p [] (inr i) = absurd i
in_push q p (x ∷ t) (inl e) = inl (inl e)
in_push q p (x ∷ t) (inr i) = elim (in_push q p t i) [ inl k ↦ inl (inr k) | inr e ↦ inr e ]

push_in : (q p : Place) (t : List Place) → In q t ⊎ (q ≡ p) → In q (t ++ p ∷ [])
push_in q p [] (inl i) = absurd i
push_in q p [] (inr e) = inl e
push_in q p (x ∷ t) (inl (inl e)) = inl e
push_in q p (x ∷ t) (inl (inr i)) = inr (push_in q p t (inl i))
push_in q p (x ∷ t) (inr e) = inr (push_in q p t (inr e))

told_post : (h : List Step) (n : ℕ) (e : Entry) (t : List Place) → (In n (numbers t) → ⊥) → Apart (numbers (t ++ Live n e ∷ [])) → Told h t → Told (post n e ∷ h) (t ++ Live n e ∷ [])
told_post h n e t absent apart g =
    record {
      apart = apart;
      live_posted = λ m d i. elim (in_push (Live m d) (Live n e) t i) [ inl k ↦ inr (g.live_posted m d k) | inr q ↦ inl (post_of_live m n d e q) ];
      live_kept = λ m d i. elim [
        | inl q ↦ post_not_cancel m n e q
        | inr c ↦ elim (in_push (Live m d) (Live n e) t i) [
          | inl k ↦ g.live_kept m d k c
          | inr q ↦ absent (subst (λ j. In j (numbers t)) (number_of_live m n d e q) (in_map number_of_place (Cancelled m) t (g.marks m c)))
        ]
      ];
      posted_live = λ m d. elim [
        | inl q ↦ λ c. push_in (Live m d) (Live n e) t (inr (live_same m n d e q))
        | inr i ↦ λ c. push_in (Live m d) (Live n e) t (inl (g.posted_live m d i (λ k. c (inr k))))
      ];
      marked = λ m i. elim (in_push (Cancelled m) (Live n e) t i) [ inl k ↦ inr (g.marked m k) | inr q ↦ absurd (cancelled_not_live m n e q) ];
      marks = λ m. elim [ inl q ↦ absurd (post_not_cancel m n e q) | inr k ↦ push_in (Cancelled m) (Live n e) t (inl (g.marks m k)) ];
      none_free = λ i. elim (in_push Free (Live n e) t i) [ inl k ↦ g.none_free k | inr q ↦ free_not_live n e q ];
    }

-- ---- an accepted cancel

told_cancel : (h : List Step) (n : ℕ) (t : List Place) → Apart (numbers (cancelled true n t)) → Told h t → Told (cancel n ∷ h) (cancelled true n t)
told_cancel h n t apart g =
    record {
      apart = apart;
      live_posted = λ m d i. elim (cancelled_cases n t (Live m d) g.apart i) [ inl q ↦ absurd (cancelled_not_live n m d (sym q)) | inr k ↦ inr (g.live_posted m d k.0) ];
      live_kept = λ m d i c. elim (cancelled_cases n t (Live m d) g.apart i) [
        | inl q ↦ cancelled_not_live n m d (sym q)
        | inr k ↦ elim c [ inl q ↦ k.1 (sym (cancel_same m n q)) | inr j ↦ g.live_kept m d k.0 j ]
      ];
      posted_live = λ m d. elim [
        | inl q ↦ absurd (post_not_cancel n m d (sym q))
        | inr i ↦ λ c. cancelled_stays n t (Live m d) (λ q. c (inl (ap cancel (sym q)))) (g.posted_live m d i (λ k. c (inr k)))
      ];
      marked = λ m i. elim (cancelled_cases n t (Cancelled m) g.apart i) [ inl q ↦ inl (ap cancel (cancelled_same m n q)) | inr k ↦ inr (g.marked m k.0) ];
      marks = λ m. elim [ inl q ↦ subst (λ j. In (Cancelled j) (cancelled true n t)) (sym (cancel_same m n q)) (cancelled_marks n t) | inr k ↦ step_marked m (cancel n) t (g.marks m k) ];
      none_free = λ i. elim (cancelled_cases n t Free g.apart i) [ inl q ↦ free_not_cancelled n q | inr k ↦ g.none_free k.0 ];
    }

told_none : Told [] []
told_none = record { apart = tt; live_posted = λ n e i. i; live_kept = λ n e i c. i; posted_live = λ n e i c. absurd i; marked = λ n i. i; marks = λ n i. i; none_free = λ i. i }

-- ---- a call

told_call : (cap : ℕ) (c : Call) (h : List Step) (t : List Place) → Told h t → Told (cons_option (accepted_step cap c t) h) (after cap c t)
told_call cap assesses h t g = g
told_call cap (posts p) h t g = go (post_refusal cap p t) refl
  where
    go : (o : Option EntryRefusal) → post_refusal cap p t ≡ o → Told (cons_option (unless_refused o (step_of (posts p))) h) (after cap (posts p) t)
    go (Some y) q = subst (Told h) (sym (refused_post cap p y t q)) g
    go None q =
        let k = has_entry cap p t q in
        let e : Entry = k.0 in
        let a : PostAccepted cap p e t = k.1 in
        let s : step_of (posts p) ≡ Some (post p.number e) = ap (λ b. cond b (post_step p.number (entry_of p)) None) a.has_number ∙ ap (post_step p.number) a.has_entry in
        let u : Apart (numbers (after cap (posts p) t)) = runs_apart cap (posts p ∷ []) t g.apart in
        subst (λ x. Told (cons_option x h) (after cap (posts p) t)) (sym s)
        (subst (Told (post p.number e ∷ h)) (sym a.left) (told_post h p.number e t a.absent (subst (λ l. Apart (numbers l)) a.left u) g))
told_call cap (cancels n) h t g = go (cancel_refusal cap n t) refl
  where
    go : (o : Option EntryRefusal) → cancel_refusal cap n t ≡ o → Told (cons_option (unless_refused o (step_of (cancels n))) h) (after cap (cancels n) t)
    go (Some y) q = subst (Told h) (sym (refused_cancel cap n y t q)) g
    go None q =
        let s : step_of (cancels n) ≡ Some (cancel n) = ap (λ b. cond b (Some (cancel n)) None) (accepted_cancel cap n t q).has_number in
        let left : after cap (cancels n) t ≡ cancelled true n t = cancel_leaves cap n t q in
        let u : Apart (numbers (after cap (cancels n) t)) = runs_apart cap (cancels n ∷ []) t g.apart in
        subst (λ x. Told (cons_option x h) (after cap (cancels n) t)) (sym s)
        (subst (Told (cancel n ∷ h)) (sym left) (told_cancel h n t (subst (λ l. Apart (numbers l)) left u) g))

-- ---- a run

told_run : (cap : ℕ) (cs : List Call) (d : List Step) (t : List Place) → Told d t → Told (onto (accepted cap cs t) d) (runs cap cs t)
told_run cap [] d t g = g
told_run cap (c ∷ cs) d t g = go (accepted_step cap c t) (told_call cap c d t g) (λ e k. told_run cap cs e (after cap c t) k)
  where
    go : (o : Option Step) → Told (cons_option o d) (after cap c t) → ((e : List Step) → Told e (after cap c t) → Told (onto (accepted cap cs (after cap c t)) e) (runs cap cs (after cap c t))) → Told (onto (cons_option o (accepted cap cs (after cap c t))) d) (runs cap cs (after cap c t))
    go None k f = f d k
    go (Some s) k f = f (s ∷ d) k

pub live_is_posted_and_not_cancelled : LiveIsPostedAndNotCancelled
live_is_posted_and_not_cancelled cap cs =
    record {
      live = λ n e. (λ i. (back (post n e) (g.live_posted n e i), λ c. g.live_kept n e i (forth (cancel n) c)), λ k. g.posted_live n e (forth (post n e) k.0) (λ c. k.1 (back (cancel n) c)));
      cancelled = λ n. (λ i. back (cancel n) (g.marked n i), λ k. g.marks n (forth (cancel n) k));
      none_free = g.none_free;
    }
  where
    h : List Step
    h = accepted cap cs []

    g : Told (onto h []) (runs cap cs [])
    g = told_run cap cs [] [] told_none

    back : (z : Step) → In z (onto h []) → In z h
    back z i = elim (onto_in z h [] i) [ inl k ↦ k | inr k ↦ absurd k ]

    forth : (z : Step) → In z h → In z (onto h [])
    forth z i = in_onto z h [] (inl i)
