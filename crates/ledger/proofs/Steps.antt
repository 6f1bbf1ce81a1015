-- What a post or a cancel does to the places and their numbers.
use Rattle.std.proofs.Common.{◌≡◌, ℕ, Bool, true, false, cond, ◌⊎◌, List, [], ◌∷◌, map, sym, refl, ap, ◌∙◌, subst, inl, inr}
use borrow.Author.Tests.{eqb-false}
use Rattle.amounts.specs.Sets.{In, Apart}
use Rattle.ledger.specs.declared.terms.Entry.{Entry}
use Rattle.ledger.specs.declared.terms.Place.{Place}
use Rattle.ledger.specs.declared.terms.Place.TheVariants.{Live, Cancelled}
use Rattle.ledger.specs.Table.{number_of_place, is_of, posted, cancelled}
use Rattle.ledger.specs.Calls.{Step, post, cancel, step_number, stepped, has_room}
use Rattle.ledger.proofs.Members.{by_eqb, in_map, un_map, either_in}

abbrev pub numbers : List Place → List ℕ
numbers t = map number_of_place t

-- a step, told whether there is room
abbrev pub step_with : Bool → Step → List Place → List Place
step_with r (post n e) t = posted r n e t
step_with r (cancel n) t = cancelled r n t

pub step_is : (cap : ℕ) (s : Step) (t : List Place) → stepped cap s t ≡ step_with (has_room cap t) s t
step_is cap (post n e) t = refl
step_is cap (cancel n) t = refl

-- ---- a post

-- of a number that has a place
pub posted_in : (r : Bool) (n : ℕ) (e : Entry) (t : List Place) → In n (numbers t) → posted r n e t ≡ t
posted_in r n e [] i = absurd i
posted_in r n e (p ∷ ps) i =
    by_eqb (λ l. l ≡ p ∷ ps) (number_of_place p) n (p ∷ ps) (p ∷ posted r n e ps) (λ q. refl)
    (λ d. ap (λ l. p ∷ l) (posted_in r n e ps (elim i [ inl q ↦ absurd (d (sym q)) | inr k ↦ k ])))

-- with no room
pub posted_full : (n : ℕ) (e : Entry) (t : List Place) → posted false n e t ≡ t
posted_full n e [] = refl
posted_full n e (p ∷ ps) =
    by_eqb (λ l. l ≡ p ∷ ps) (number_of_place p) n (p ∷ ps) (p ∷ posted false n e ps) (λ q. refl) (λ d. ap (λ l. p ∷ l) (posted_full n e ps))

pub posted_cases : (n : ℕ) (e : Entry) (t : List Place) (p : Place) → In p (posted true n e t) → In p t ⊎ (p ≡ Live n e)
posted_cases n e [] p (inl q) = inr q
posted_cases n e [] p (inr i) = absurd i
posted_cases n e (x ∷ xs) p i =
    by_eqb (λ l. In p l → In p (x ∷ xs) ⊎ (p ≡ Live n e)) (number_of_place x) n (x ∷ xs) (x ∷ posted true n e xs) (λ q k. inl k)
    (λ d. elim [ inl q ↦ inl (inl q) | inr k ↦ elim (posted_cases n e xs p k) [ inl g ↦ inl (inr g) | inr g ↦ inr g ] ]) i

-- each place stays
pub posted_stays : (n : ℕ) (e : Entry) (t : List Place) (p : Place) → In p t → In p (posted true n e t)
posted_stays n e [] p i = absurd i
posted_stays n e (x ∷ xs) p i =
    by_eqb (λ l. In p l) (number_of_place x) n (x ∷ xs) (x ∷ posted true n e xs) (λ q. i)
    (λ d. elim i [ inl q ↦ inl q | inr k ↦ inr (posted_stays n e xs p k) ])

pub posted_keeps : (n : ℕ) (e : Entry) (t : List Place) (m : ℕ) → In m (numbers t) → In m (numbers (posted true n e t))
posted_keeps n e t m i =
    let r = un_map number_of_place m t i in
    subst (λ j. In j (numbers (posted true n e t))) (sym r.2) (in_map number_of_place r.0 (posted true n e t) (posted_stays n e t r.0 r.1))

pub posted_has : (n : ℕ) (e : Entry) (t : List Place) → In n (numbers (posted true n e t))
posted_has n e [] = inl refl
posted_has n e (x ∷ xs) =
    by_eqb (λ l. In n (numbers l)) (number_of_place x) n (x ∷ xs) (x ∷ posted true n e xs) (λ q. inl (sym q)) (λ d. inr (posted_has n e xs))

-- the numbers are those of before, and n
pub posted_only : (n : ℕ) (e : Entry) (t : List Place) (m : ℕ) → In m (numbers (posted true n e t)) → In m (numbers t) ⊎ (m ≡ n)
posted_only n e t m i =
    let r = un_map number_of_place m (posted true n e t) i in
    elim (posted_cases n e t r.0 r.1) [ inl k ↦ inl (subst (λ j. In j (numbers t)) (sym r.2) (in_map number_of_place r.0 t k)) | inr q ↦ inr (r.2 ∙ ap number_of_place q) ]

pub posted_apart : (n : ℕ) (e : Entry) (t : List Place) → Apart (numbers t) → Apart (numbers (posted true n e t))
posted_apart n e [] a = (λ i. i, tt)
posted_apart n e (x ∷ xs) a =
    by_eqb (λ l. Apart (numbers l)) (number_of_place x) n (x ∷ xs) (x ∷ posted true n e xs) (λ q. a)
    (λ d. (λ i. elim (posted_only n e xs (number_of_place x) i) [ inl k ↦ a.0 k | inr q ↦ d q ], posted_apart n e xs a.1))

-- ---- a cancel

pub cancelled_room : (r : Bool) (n : ℕ) (t : List Place) → In n (numbers t) → cancelled r n t ≡ cancelled true n t
cancelled_room r n [] i = absurd i
cancelled_room r n (p ∷ ps) i = go (is_of n p) refl (λ k. cancelled_room r n ps k)
  where
    go : (b : Bool) → is_of n p ≡ b → (In n (numbers ps) → cancelled r n ps ≡ cancelled true n ps) → cond b (Cancelled n ∷ ps) (p ∷ cancelled r n ps) ≡ cond b (Cancelled n ∷ ps) (p ∷ cancelled true n ps)
    go true e f = refl
    go false e f = ap (λ l. p ∷ l) (f (elim i [ inl q ↦ absurd (eqb-false (number_of_place p) n e (sym q)) | inr k ↦ k ]))

-- with no room, of a number that has no place
pub cancelled_full : (n : ℕ) (t : List Place) → (In n (numbers t) → ⊥) → cancelled false n t ≡ t
cancelled_full n [] f = refl
cancelled_full n (p ∷ ps) f =
    by_eqb (λ l. l ≡ p ∷ ps) (number_of_place p) n (Cancelled n ∷ ps) (p ∷ cancelled false n ps) (λ q. absurd (f (inl (sym q))))
    (λ d. ap (λ l. p ∷ l) (cancelled_full n ps (λ i. f (inr i))))

pub cancelled_cases : (n : ℕ) (t : List Place) (p : Place) → Apart (numbers t) → In p (cancelled true n t) → (p ≡ Cancelled n) ⊎ (In p t × (n ≡ number_of_place p → ⊥))
cancelled_cases n [] p a (inl q) = inl q
cancelled_cases n [] p a (inr i) = absurd i
cancelled_cases n (x ∷ xs) p a i =
    by_eqb (λ l. In p l → (p ≡ Cancelled n) ⊎ (In p (x ∷ xs) × (n ≡ number_of_place p → ⊥))) (number_of_place x) n (Cancelled n ∷ xs) (x ∷ cancelled true n xs)
    (λ q. elim [ inl g ↦ inl g | inr k ↦ inr (inr k, λ w. a.0 (subst (λ j. In j (numbers xs)) (sym w ∙ sym q) (in_map number_of_place p xs k))) ])
    (λ d. elim [ inl g ↦ inr (inl g, λ w. d (sym (w ∙ ap number_of_place g))) | inr k ↦ elim (cancelled_cases n xs p a.1 k) [ inl g ↦ inl g | inr g ↦ inr (inr g.0, g.1) ] ]) i

-- each place of another number stays
pub cancelled_stays : (n : ℕ) (t : List Place) (p : Place) → (n ≡ number_of_place p → ⊥) → In p t → In p (cancelled true n t)
cancelled_stays n [] p f i = absurd i
cancelled_stays n (x ∷ xs) p f i =
    by_eqb (λ l. In p l) (number_of_place x) n (Cancelled n ∷ xs) (x ∷ cancelled true n xs)
    (λ q. elim i [ inl g ↦ absurd (f (sym q ∙ sym (ap number_of_place g))) | inr k ↦ inr k ])
    (λ d. elim i [ inl g ↦ inl g | inr k ↦ inr (cancelled_stays n xs p f k) ])

pub cancelled_keeps : (n : ℕ) (t : List Place) (m : ℕ) → In m (numbers t) → In m (numbers (cancelled true n t))
cancelled_keeps n [] m i = absurd i
cancelled_keeps n (x ∷ xs) m i =
    by_eqb (λ l. In m (numbers l)) (number_of_place x) n (Cancelled n ∷ xs) (x ∷ cancelled true n xs)
    (λ q. elim i [ inl g ↦ inl (g ∙ q) | inr k ↦ inr k ])
    (λ d. elim i [ inl g ↦ inl g | inr k ↦ inr (cancelled_keeps n xs m k) ])

-- the place of the number is marked
pub cancelled_marks : (n : ℕ) (t : List Place) → In (Cancelled n) (cancelled true n t)
cancelled_marks n [] = inl refl
cancelled_marks n (x ∷ xs) =
    by_eqb (λ l. In (Cancelled n) l) (number_of_place x) n (Cancelled n ∷ xs) (x ∷ cancelled true n xs) (λ q. inl refl) (λ d. inr (cancelled_marks n xs))

pub cancelled_has : (n : ℕ) (t : List Place) → In n (numbers (cancelled true n t))
cancelled_has n t = in_map number_of_place (Cancelled n) (cancelled true n t) (cancelled_marks n t)

pub cancelled_only : (n : ℕ) (t : List Place) (m : ℕ) → Apart (numbers t) → In m (numbers (cancelled true n t)) → In m (numbers t) ⊎ (m ≡ n)
cancelled_only n t m a i =
    let r = un_map number_of_place m (cancelled true n t) i in
    elim (cancelled_cases n t r.0 a r.1) [ inl q ↦ inr (r.2 ∙ ap number_of_place q) | inr k ↦ inl (subst (λ j. In j (numbers t)) (sym r.2) (in_map number_of_place r.0 t k.0)) ]

pub cancelled_apart : (n : ℕ) (t : List Place) → Apart (numbers t) → Apart (numbers (cancelled true n t))
cancelled_apart n [] a = (λ i. i, tt)
cancelled_apart n (x ∷ xs) a =
    by_eqb (λ l. Apart (numbers l)) (number_of_place x) n (Cancelled n ∷ xs) (x ∷ cancelled true n xs) (λ q. (λ i. a.0 (subst (λ j. In j (numbers xs)) (sym q) i), a.1))
    (λ d. (λ i. elim (cancelled_only n xs (number_of_place x) a.1 i) [ inl k ↦ a.0 k | inr q ↦ d q ], cancelled_apart n xs a.1))

-- ---- either

-- whether a place is free does not count for a number that has one
pub room_in : (r : Bool) (s : Step) (t : List Place) → In (step_number s) (numbers t) → step_with r s t ≡ step_with true s t
room_in r (post n e) t i = posted_in r n e t i ∙ sym (posted_in true n e t i)
room_in r (cancel n) t i = cancelled_room r n t i

-- and with no room a number without a place leaves all as it was
pub full_new : (s : Step) (t : List Place) → (In (step_number s) (numbers t) → ⊥) → step_with false s t ≡ t
full_new (post n e) t f = posted_full n e t
full_new (cancel n) t f = cancelled_full n t f

-- so a step is as with room, or leaves all as it was
pub either_room : (r : Bool) (s : Step) (t : List Place) → (step_with r s t ≡ step_with true s t) ⊎ (step_with r s t ≡ t)
either_room true s t = inl refl
either_room false s t = elim (either_in (step_number s) (numbers t)) [ inl i ↦ inl (room_in false s t i) | inr f ↦ inr (full_new s t f) ]
