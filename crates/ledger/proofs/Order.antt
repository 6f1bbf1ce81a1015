-- The table after a run, as a set, follows from the set of the run's steps. What is kept along a run (Good): each
-- number has one place; a live place's entry was posted and its number not cancelled; a cancelled place's number was
-- cancelled; and every number of a step has a place, where there are places enough.
use Rattle.std.proofs.Common.{◌≡◌, ℕ, suc, true, ◌⊎◌, List, [], ◌∷◌, map, length, Some, None, Option, sym, refl, ap, ◌∙◌, subst, inl, inr, arith, lt-ltb}
use Rattle.std.specs.List.{cons_option}
use Rattle.amounts.specs.Sets.{In, Apart, Within}
use Rattle.ledger.specs.declared.terms.Entry.{Entry}
use Rattle.ledger.specs.declared.terms.Place.{Place}
use Rattle.ledger.specs.declared.terms.Place.TheVariants.{Free, Live, Cancelled}
use Rattle.ledger.specs.Table.{number_of_place, posted, cancelled}
use Rattle.ledger.specs.Calls.{Call, Step, post, cancel, step_number, step_of, counted, stepped, after_step, has_room, runs}
use Rattle.ledger.specs.Laws.{Single, Enough, SamePlaces, OrderDoesNotCount}
use Rattle.ledger.proofs.Members.{in_map, un_map, apart_map, within_map, either_in}
use Rattle.ledger.proofs.Steps.{numbers, step_with, step_is, posted_in, posted_cases, posted_keeps, posted_has, posted_apart, cancelled_cases, cancelled_keeps, cancelled_has, cancelled_apart, room_in}

-- what is known of a place after a set of steps
abbrev Known : List Step → Place → Type 0
Known h Free = ⊥
Known h (Live n e) = (In (cancel n) h → ⊥) × In (post n e) h
Known h (Cancelled n) = In (cancel n) h

record Good (h : List Step) (t : List Place) : Type 0 where
  apart : Apart (numbers t)
  known : (p : Place) → In p t → Known h p
  post_has : (n : ℕ) (e : Entry) → In (post n e) h → In n (numbers t)
  cancel_has : (n : ℕ) → In (cancel n) h → In n (numbers t)

pub post_not_cancel : (m n : ℕ) (e : Entry) → cancel m ≡ post n e → ⊥
post_not_cancel m n e q = cc

pub cancel_same : (m n : ℕ) → cancel m ≡ cancel n → m ≡ n
cancel_same m n q = cc

post_same : (m n : ℕ) (d e : Entry) → post m d ≡ post n e → m ≡ n
post_same m n d e q = cc

-- ---- a step with room

known_post : (h : List Step) (n : ℕ) (e : Entry) (p : Place) → Known h p → Known (post n e ∷ h) p
known_post h n e Free k = k
known_post h n e (Live m d) k = (elim [ inl q ↦ post_not_cancel m n e q | inr i ↦ k.0 i ], inr k.1)
known_post h n e (Cancelled m) k = inr k

known_cancel : (h : List Step) (n : ℕ) (p : Place) → (n ≡ number_of_place p → ⊥) → Known h p → Known (cancel n ∷ h) p
known_cancel h n Free f k = k
known_cancel h n (Live m d) f k = (elim [ inl q ↦ f (sym (cancel_same m n q)) | inr i ↦ k.0 i ], inr k.1)
known_cancel h n (Cancelled m) f k = inr k

good_post : (h : List Step) (n : ℕ) (e : Entry) (t : List Place) → Good h t → Good (post n e ∷ h) (posted true n e t)
good_post h n e t g =
    record {
      apart = posted_apart n e t g.apart;
      known = λ p i. at p (either_in n (numbers t)) i;
      post_has = λ m d. elim [ inl q ↦ subst (λ j. In j (numbers (posted true n e t))) (sym (post_same m n d e q)) (posted_has n e t) | inr i ↦ posted_keeps n e t m (g.post_has m d i) ];
      cancel_has = λ m. elim [ inl q ↦ absurd (post_not_cancel m n e q) | inr i ↦ posted_keeps n e t m (g.cancel_has m i) ];
    }
  where
    at : (p : Place) → In n (numbers t) ⊎ (In n (numbers t) → ⊥) → In p (posted true n e t) → Known (post n e ∷ h) p
    at p (inl k) i = known_post h n e p (g.known p (subst (λ l. In p l) (posted_in true n e t k) i))
    at p (inr f) i =
        elim (posted_cases n e t p i) [
          | inl k ↦ known_post h n e p (g.known p k)
          | inr q ↦ subst (Known (post n e ∷ h)) (sym q) (elim [ inl w ↦ post_not_cancel n n e w | inr w ↦ f (g.cancel_has n w) ], inl refl)
        ]

good_cancel : (h : List Step) (n : ℕ) (t : List Place) → Good h t → Good (cancel n ∷ h) (cancelled true n t)
good_cancel h n t g =
    record {
      apart = cancelled_apart n t g.apart;
      known = λ p i. elim (cancelled_cases n t p g.apart i) [ inl q ↦ subst (Known (cancel n ∷ h)) (sym q) (inl refl) | inr k ↦ known_cancel h n p k.1 (g.known p k.0) ];
      post_has = λ m d. elim [ inl q ↦ absurd (post_not_cancel n m d (sym q)) | inr i ↦ cancelled_keeps n t m (g.post_has m d i) ];
      cancel_has = λ m. elim [ inl q ↦ subst (λ j. In j (numbers (cancelled true n t))) (sym (cancel_same m n q)) (cancelled_has n t) | inr i ↦ cancelled_keeps n t m (g.cancel_has m i) ];
    }

good_none : Good [] []
good_none = record { apart = tt; known = λ p i. absurd i; post_has = λ n e i. i; cancel_has = λ n i. i }

good_step : (s : Step) (h : List Step) (t : List Place) → Good h t → Good (s ∷ h) (step_with true s t)
good_step (post n e) h t g = good_post h n e t g
good_step (cancel n) h t g = good_cancel h n t g

-- ---- a run of steps with places enough

-- the numbers of the table are numbers of the steps
known_number : (h : List Step) (p : Place) → Known h p → In (number_of_place p) (map step_number h)
known_number h Free k = absurd k
known_number h (Live n e) k = in_map step_number (post n e) h k.1
known_number h (Cancelled n) k = in_map step_number (cancel n) h k

good_numbers : (h : List Step) (t : List Place) → Good h t → Within (numbers t) (map step_number h)
good_numbers h t g n i =
    let r = un_map number_of_place n t i in
    subst (λ j. In j (map step_number h)) (sym r.2) (known_number h r.0 (g.known r.0 r.1))

length_map : {X : Type 0} (f : X → ℕ) (xs : List X) → length (map f xs) ≡ length xs
length_map f [] = refl
length_map f (x ∷ xs) = ap suc (length_map f xs)

room : (cap : ℕ) (full h : List Step) (s : Step) (t : List Place) → Enough cap full → Good h t → Within h full → In s full → stepped cap s t ≡ step_with true s t
room cap full h s t enough g w i = step_is cap s t ∙ go (either_in (step_number s) (numbers t))
  where
    go : In (step_number s) (numbers t) ⊎ (In (step_number s) (numbers t) → ⊥) → step_with (has_room cap t) s t ≡ step_with true s t
    go (inl k) = room_in (has_room cap t) s t k
    go (inr f) =
        ap (λ r. step_with r s t) (lt-ltb (length t) cap (omega (arith, length_map number_of_place t, enough (step_number s ∷ numbers t) (f, g.apart) (λ n. elim [ inl q ↦ subst (λ j. In j (map step_number full)) (sym q) (in_map step_number s full i) | inr k ↦ within_map step_number h full w n (good_numbers h t g n k) ]))))

-- what a list of steps leaves
abbrev pub steps_run : ℕ → List Step → List Place → List Place
steps_run cap [] t = t
steps_run cap (s ∷ h) t = steps_run cap h (stepped cap s t)

-- the steps done, the last first
abbrev pub onto : List Step → List Step → List Step
onto [] d = d
onto (s ∷ h) d = onto h (s ∷ d)

pub in_onto : (z : Step) (h d : List Step) → In z h ⊎ In z d → In z (onto h d)
in_onto z [] d (inl i) = absurd i
in_onto z [] d (inr i) = i
in_onto z (s ∷ h) d (inl (inl q)) = in_onto z h (s ∷ d) (inr (inl q))
in_onto z (s ∷ h) d (inl (inr i)) = in_onto z h (s ∷ d) (inl i)
in_onto z (s ∷ h) d (inr i) = in_onto z h (s ∷ d) (inr (inr i))

pub onto_in : (z : Step) (h d : List Step) → In z (onto h d) → In z h ⊎ In z d
onto_in z [] d i = inr i
onto_in z (s ∷ h) d i = elim (onto_in z h (s ∷ d) i) [ inl k ↦ inl (inr k) | inr k ↦ elim k [ inl q ↦ inl (inl q) | inr j ↦ inr j ] ]

good_run : (cap : ℕ) (full h d : List Step) (t : List Place) → Enough cap full → Within d full → Within h full → Good d t → Good (onto h d) (steps_run cap h t)
good_run cap full [] d t enough wd wh g = g
good_run cap full (s ∷ h) d t enough wd wh g =
    good_run cap full h (s ∷ d) (stepped cap s t) enough (λ z. elim [ inl q ↦ subst (λ x. In x full) (sym q) (wh s (inl refl)) | inr i ↦ wd z i ]) (λ z i. wh z (inr i))
    (subst (λ u. Good (s ∷ d) u) (sym (room cap full d s t enough g wd (wh s (inl refl)))) (good_step s d t g))

good_from_none : (cap : ℕ) (h : List Step) → Enough cap h → Good (onto h []) (steps_run cap h [])
good_from_none cap h enough = good_run cap h h [] [] enough (λ z i. absurd i) (λ z i. i) good_none

-- ---- two runs

-- one table's places are places of the other
same_places : (a b : List Step) (s t : List Place) → Good a s → Good b t → Within a b → Within b a → Single a → Within s t
same_places a b s t g k to from single Free i = absurd (g.known Free i)
same_places a b s t g k to from single (Cancelled n) i = other (un_map number_of_place n t (k.cancel_has n (to (cancel n) (g.known (Cancelled n) i))))
  where
    other : (p : Place) × In p t × (n ≡ number_of_place p) → In (Cancelled n) t
    other r = at r.0 r.1 r.2
      where
        at : (p : Place) → In p t → n ≡ number_of_place p → In (Cancelled n) t
        at Free j q = absurd (k.known Free j)
        at (Live m e) j q = absurd ((k.known (Live m e) j).0 (to (cancel m) (subst (λ x. In (cancel x) a) q (g.known (Cancelled n) i))))
        at (Cancelled m) j q = subst (λ x. In (Cancelled x) t) (sym q) j
same_places a b s t g k to from single (Live n e) i = other (un_map number_of_place n t (k.post_has n e (to (post n e) (g.known (Live n e) i).1)))
  where
    other : (p : Place) × In p t × (n ≡ number_of_place p) → In (Live n e) t
    other r = at r.0 r.1 r.2
      where
        at : (p : Place) → In p t → n ≡ number_of_place p → In (Live n e) t
        at Free j q = absurd (k.known Free j)
        at (Live m d) j q =
            let here : In (post n d) a = subst (λ x. In (post x d) a) (sym q) (from (post m d) (k.known (Live m d) j).1) in
            let same : d ≡ e = single n d e here (g.known (Live n e) i).1 in
            subst (λ x. In (Live n x) t) same (subst (λ x. In (Live x d) t) (sym q) j)
        at (Cancelled m) j q = absurd ((g.known (Live n e) i).0 (subst (λ x. In (cancel x) a) (sym q) (from (cancel m) (k.known (Cancelled m) j))))

alike : (capA capB : ℕ) (a b : List Step) → Within a b → Within b a → Single a → Enough capA a → Enough capB b → SamePlaces (steps_run capA a []) (steps_run capB b [])
alike capA capB a b to from single ea eb =
    record {
      apart_left = apart_map number_of_place _ ga.apart;
      apart_right = apart_map number_of_place _ gb.apart;
      to = same_places a' b' (steps_run capA a []) (steps_run capB b []) ga gb to' from' single';
      from = same_places b' a' (steps_run capB b []) (steps_run capA a []) gb ga from' to' (λ n d e i j. single' n d e (from' (post n d) i) (from' (post n e) j));
    }
  where
    a' : List Step
    a' = onto a []

    b' : List Step
    b' = onto b []

    ga : Good a' (steps_run capA a [])
    ga = good_from_none capA a ea

    gb : Good b' (steps_run capB b [])
    gb = good_from_none capB b eb

    back : (h : List Step) (z : Step) → In z (onto h []) → In z h
    back h z i = elim (onto_in z h [] i) [ inl k ↦ k | inr k ↦ absurd k ]

    to' : Within a' b'
    to' z i = in_onto z b [] (inl (to z (back a z i)))

    from' : Within b' a'
    from' z i = in_onto z a [] (inl (from z (back b z i)))

    single' : Single a'
    single' n d e i j = single n d e (back a (post n d) i) (back a (post n e) j)

-- a run of calls is the run of its steps
pub runs_counted : (cap : ℕ) (cs : List Call) (t : List Place) → runs cap cs t ≡ steps_run cap (counted cs) t
runs_counted cap [] t = refl
runs_counted cap (c ∷ cs) t = go (step_of c) (runs_counted cap cs)
  where
    go : (o : Option Step) → ((u : List Place) → runs cap cs u ≡ steps_run cap (counted cs) u) → runs cap cs (after_step cap o t) ≡ steps_run cap (cons_option o (counted cs)) t
    go None h = h t
    go (Some s) h = h (stepped cap s t)

pub order_does_not_count : OrderDoesNotCount
order_does_not_count capA capB a b h =
    subst (λ x. SamePlaces x (runs capB b [])) (sym (runs_counted capA a []))
    (subst (λ y. SamePlaces (steps_run capA (counted a) []) y) (sym (runs_counted capB b [])) (alike capA capB (counted a) (counted b) h.to h.from h.single h.enough_left h.enough_right))
