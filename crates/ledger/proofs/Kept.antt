-- Along a run each number keeps one place, and a cancelled one stays marked.
use Rattle.std.proofs.lemmas.Bool.{lt-ltb}
use Rattle.std.proofs.Common.{◌≡◌, ℕ, ◌<◌, true, cond, ◌⊎◌, List, [], ◌∷◌, length, Some, None, Ok, Option, sym, refl, ap, ◌∙◌, subst, inl, inr}
use Rattle.amounts.specs.Sets.{In, Apart}
use Rattle.ledger.specs.declared.terms.Entry.{Entry}
use Rattle.ledger.specs.declared.terms.Posting.{Posting}
use Rattle.ledger.specs.declared.terms.Place.{Place}
use Rattle.ledger.specs.declared.terms.Place.TheVariants.{Live, Cancelled}
use Rattle.ledger.specs.declared.terms.EntryRefusal.TheVariants.{Number, Cancelled as IsCancelled}
use Rattle.ledger.specs.Entries.{numbered, entry_of}
use Rattle.ledger.specs.Table.{number_of_place, found, cancelled}
use Rattle.ledger.specs.Calls.{Call, cancels, Step, post, cancel, step_of, has_room, stepped, after_step, after, runs, post_known, cancel_known, post_checked, post_refusal, cancel_refusal}
use Rattle.ledger.specs.Laws.{EachNumberOnePlace, CancelledStaysCancelled}
use Rattle.ledger.specs.Laws.{IsCancelled as StaysCancelled}
use Rattle.ledger.proofs.Members.{in_map, one_of_number, either_in}
use Rattle.ledger.proofs.Steps.{numbers, step_with, step_is, either_room, posted_apart, posted_stays, cancelled_apart, cancelled_stays, cancelled_marks, cancelled_room}
use Rattle.ledger.proofs.PlaceLaws.{Away, at_place, no_place}
use Rattle.ledger.proofs.Cancels.{accepted_cancel, Accepted}

-- ---- what a step keeps, whether there is room or not

-- what a step with room keeps, and nothing at all, is kept by each step
kept_step : (P : List Place → Type 0) (cap : ℕ) (s : Step) (t : List Place) → P (step_with true s t) → P t → P (stepped cap s t)
kept_step P cap s t a b =
    subst P (sym (step_is cap s t)) (elim (either_room (has_room cap t) s t) [ inl q ↦ subst P (sym q) a | inr q ↦ subst P (sym q) b ])

pub step_apart : (s : Step) (t : List Place) → Apart (numbers t) → Apart (numbers (step_with true s t))
step_apart (post n e) t a = posted_apart n e t a
step_apart (cancel n) t a = cancelled_apart n t a

pub step_marked : (m : ℕ) (s : Step) (t : List Place) → In (Cancelled m) t → In (Cancelled m) (step_with true s t)
step_marked m (post n e) t i = posted_stays n e t (Cancelled m) i
step_marked m (cancel n) t i = go (either_in n (m ∷ []))
  where
    go : In n (m ∷ []) ⊎ (In n (m ∷ []) → ⊥) → In (Cancelled m) (cancelled true n t)
    go (inl (inl q)) = subst (λ j. In (Cancelled j) (cancelled true n t)) q (cancelled_marks n t)
    go (inl (inr k)) = absurd k
    go (inr f) = cancelled_stays n t (Cancelled m) (λ q. f (inl q)) i

-- what each step keeps a run keeps
kept_run : (P : List Place → Type 0) (cap : ℕ) → ((s : Step) (t : List Place) → P t → P (stepped cap s t)) → (cs : List Call) (t : List Place) → P t → P (runs cap cs t)
kept_run P cap f [] t p = p
kept_run P cap f (c ∷ cs) t p = kept_run P cap f cs (after cap c t) (go (step_of c))
  where
    go : (o : Option Step) → P (after_step cap o t)
    go None = p
    go (Some s) = f s t p

pub runs_apart : (cap : ℕ) (cs : List Call) (t : List Place) → Apart (numbers t) → Apart (numbers (runs cap cs t))
runs_apart cap cs t a = kept_run (λ u. Apart (numbers u)) cap (λ s u b. kept_step (λ v. Apart (numbers v)) cap s u (step_apart s u b) b) cs t a

runs_marked : (m cap : ℕ) (cs : List Call) (t : List Place) → In (Cancelled m) t → In (Cancelled m) (runs cap cs t)
runs_marked m cap cs t i = kept_run (λ u. In (Cancelled m) u) cap (λ s u j. kept_step (λ v. In (Cancelled m) v) cap s u (step_marked m s u j) j) cs t i

pub each_number_one_place : EachNumberOnePlace
each_number_one_place cap cs = runs_apart cap cs [] tt

-- ---- a marked number

found_marked : (n : ℕ) (t : List Place) → Apart (numbers t) → In (Cancelled n) t → found n t ≡ Some (Cancelled n)
found_marked n t a i = go (found n t) refl
  where
    go : (o : Option Place) → found n t ≡ o → o ≡ Some (Cancelled n)
    go None f = absurd ((no_place n t f).absent (in_map number_of_place (Cancelled n) t i))
    go (Some q) f =
        let k = at_place n t q f in
        ap Some (one_of_number number_of_place t q (Cancelled n) a k.member i k.is_number)

marked : (cap n : ℕ) (t : List Place) → numbered n ≡ true → Apart (numbers t) → In (Cancelled n) t → StaysCancelled cap n t
marked cap n t e a i =
    record {
      not_live = λ d j. live_cancelled n d (one_of_number number_of_place t (Live n d) (Cancelled n) a j i refl);
      no_post = λ p d q k. posting p d q k;
      no_cancel = ap (λ b. cond b (cancel_known (found n t) (has_room cap t)) (Some Number)) e ∙ ap (λ o. cancel_known o (has_room cap t)) f;
    }
  where
    f : found n t ≡ Some (Cancelled n)
    f = found_marked n t a i

    live_cancelled : (m : ℕ) (d : Entry) → Live m d ≡ Cancelled m → ⊥
    live_cancelled m d q = cc

    posting : (p : Posting) (d : Entry) → p.number ≡ n → entry_of p ≡ Ok d → post_refusal cap p t ≡ Some IsCancelled
    posting p d q k =
        ap (λ b. cond b (post_checked (entry_of p) (post_known (found p.number t) (has_room cap t))) (Some Number)) (ap numbered q ∙ e)
        ∙ ap (λ x. post_checked x (post_known (found p.number t) (has_room cap t))) k
        ∙ ap (λ o. post_known o (has_room cap t)) (ap (λ m. found m t) q ∙ f)

-- an accepted cancel leaves what it leaves with room, and so marks its number
pub cancel_leaves : (cap n : ℕ) (t : List Place) → cancel_refusal cap n t ≡ None → after cap (cancels n) t ≡ cancelled true n t
cancel_leaves cap n t h = ap (λ b. after_step cap (cond b (Some (cancel n)) None) t) k.has_number ∙ go k.state
  where
    k : Accepted cap n t
    k = accepted_cancel cap n t h

    go : ((e : Entry) × (found n t ≡ Some (Live n e))) ⊎ (Away n t × (length t < cap)) → cancelled (has_room cap t) n t ≡ cancelled true n t
    go (inl s) = cancelled_room (has_room cap t) n t (in_map number_of_place (Live n s.0) t (at_place n t (Live n s.0) s.1).member)
    go (inr s) = ap (λ r. cancelled r n t) (lt-ltb (length t) cap s.1)

cancel_marks : (cap n : ℕ) (t : List Place) → cancel_refusal cap n t ≡ None → In (Cancelled n) (after cap (cancels n) t)
cancel_marks cap n t h = subst (λ u. In (Cancelled n) u) (sym (cancel_leaves cap n t h)) (cancelled_marks n t)

pub cancelled_stays_cancelled : CancelledStaysCancelled
cancelled_stays_cancelled cap n before later h =
    let t : List Place = runs cap before [] in
    let u : List Place = after cap (cancels n) t in
    let a : Apart (numbers u) = runs_apart cap (cancels n ∷ []) t (runs_apart cap before [] tt) in
    marked cap n (runs cap later u) (accepted_cancel cap n t h).has_number (runs_apart cap later u a) (runs_marked n cap later u (cancel_marks cap n t h))
