-- The lowest of the stocks of a kind that are held and pass a test, one place after the other.
use Rattle.std.proofs.Common.{◌≡◌, ℕ, zero, suc, ◌+◌, ◌<◌, ◌≤◌, Bool, true, false, cond, ◌&&◌, ◌||◌, eqb, ◌⊎◌, min, List, [], ◌∷◌, filter, fold, Some, None, Option, sym, refl, ap, ◌∙◌, inl, inr, arith, eq-eqb, eqb-true}
use borrow.Author.Tests.{eqb-false}
use Rattle.std.specs.List.{range_with_len, filter_map, cons_option, reduce}
use Rattle.std.proofs.lemmas.Bool.{and_from}
use Rattle.ledger.specs.declared.terms.Kind.{Kind}
use Rattle.ledger.specs.declared.terms.Place.{Place}
use Rattle.ledger.specs.Table.{sound}
use Rattle.margin_rules.specs.Positions.{all_stocks, held_in, any_place}
use Rattle.margin_rules.specs.Answers.{first_of}
use Rattle.margin.specs.Visits.{stock_in, is_key, any_key}
use Rattle.margin.proofs.Keys.{true_false}
use Rattle.margin.proofs.Support.{held_same, held_stock}

-- the lower of a stock and another, if there is one
abbrev lower_of : ℕ → Option ℕ → ℕ
lower_of x None = x
lower_of x (Some y) = min x y

-- the lowest so far, once one more stock is seen
abbrev lower_with : (ℕ → Bool) → Option ℕ → Option ℕ → Option ℕ
lower_with test None lowest = lowest
lower_with test (Some x) lowest = cond (test x) (Some (lower_of x lowest)) lowest

none_some : {X : Type 0} (x : X) → None ≡ Some x → ⊥
none_some x e = let z : ◌≡◌ {A = ℕ} 0 1 = cc in omega arith

some_same : (x y : ℕ) → Some x ≡ Some y → x ≡ y
some_same x y e = cc

-- a stock of at most y
abbrev Upto : Option ℕ → ℕ → Type 0
Upto r y = (x : ℕ) × (r ≡ Some x) × (x ≤ y)

upto : (r : Option ℕ) (y z : ℕ) → y ≤ z → Upto r y → Upto r z
upto r y z h u = (u.0, u.1, omega (arith, u.2))

lower_low : (x : ℕ) (low : Option ℕ) → lower_of x low ≤ x
lower_low x None = omega arith
lower_low x (Some y) = omega arith

lower_old : (x y : ℕ) (low : Option ℕ) → low ≡ Some y → lower_of x low ≤ y
lower_old x y None e = absurd (none_some y e)
lower_old x y (Some z) e = omega (arith, some_same z y e)

lower_from : (x z : ℕ) (low : Option ℕ) → lower_of x low ≡ z → (low ≡ Some z) ⊎ (x ≡ z)
lower_from x z None e = inr e
lower_from x z (Some y) e = go (eqb x z) refl
  where
    go : (b : Bool) → eqb x z ≡ b → (Some y ≡ Some z) ⊎ (x ≡ z)
    go true q = inr (eqb-true x z q)
    go false q = let n = eqb-false x z q in let h : y ≡ z = grind arith in inl (ap Some h)

-- the lowest of one stock, if any, and of those that count
record Low (low : Option ℕ) (counts : ℕ → Type 0) (r : Option ℕ) : Type 0 where
  from : (x : ℕ) → r ≡ Some x → (low ≡ Some x) ⊎ counts x
  old : (y : ℕ) → low ≡ Some y → Upto r y
  least : (y : ℕ) → counts y → Upto r y

or_more : (b c : Bool) → c ≡ true → (b || c) ≡ true
or_more true c e = refl
or_more false c e = e

split : (y s : ℕ) (c : Bool) → (eqb y s || c) ≡ true → (y ≡ s) ⊎ (c ≡ true)
split y s c h = part (eqb y s) refl h
  where
    part : (t : Bool) → eqb y s ≡ t → (t || c) ≡ true → (y ≡ s) ⊎ (c ≡ true)
    part true q k = inl (eqb-true y s q)
    part false q k = inr k

module _ (test : ℕ → Bool) (key : Place → Option ℕ) where
  -- the lowest, from what was seen before
  abbrev lowest : Option ℕ → List Place → Option ℕ
  lowest low [] = low
  lowest low (p ∷ ps) = lowest (lower_with test (key p) low) ps

  abbrev Counts : List Place → ℕ → Type 0
  Counts ps y = (any_key key y ps ≡ true) × (test y ≡ true)

  abbrev More : Option ℕ → List Place → ℕ → Type 0
  More o ps y = ((is_key y o || any_key key y ps) ≡ true) × (test y ≡ true)

  -- one place more, where its stock passes the test
  low_yes : (s : ℕ) (low : Option ℕ) (ps : List Place) (r : Option ℕ) → test s ≡ true → Low (Some (lower_of s low)) (Counts ps) r → Low low (More (Some s) ps) r
  low_yes s low ps r q j =
      record {
        from = λ x f. elim (j.from x f) [
          | inl w ↦ elim (lower_from s x low (some_same (lower_of s low) x w)) [
            | inl v ↦ inl v
            | inr v ↦ inr (ap (λ b. b || any_key key x ps) (eq-eqb x s (sym v)), ap test (sym v) ∙ q)
          ]
          | inr b ↦ inr (or_more (eqb x s) (any_key key x ps) b.0, b.1)
        ];
        old = λ y f. upto r (lower_of s low) y (lower_old s y low f) (j.old (lower_of s low) refl);
        least = λ y b. elim (split y s (any_key key y ps) b.0) [
          | inl v ↦ upto r (lower_of s low) y (omega (arith, lower_low s low, v)) (j.old (lower_of s low) refl)
          | inr k ↦ j.least y (k, b.1)
        ];
      }

  -- where it does not
  low_no : (s : ℕ) (low : Option ℕ) (ps : List Place) (r : Option ℕ) → test s ≡ false → Low low (Counts ps) r → Low low (More (Some s) ps) r
  low_no s low ps r q i =
      record {
        from = λ x f. elim (i.from x f) [ inl w ↦ inl w | inr b ↦ inr (or_more (eqb x s) (any_key key x ps) b.0, b.1) ];
        old = i.old;
        least = λ y b. elim (split y s (any_key key y ps) b.0) [ inl v ↦ absurd (true_false (sym b.1 ∙ ap test v ∙ q)) | inr k ↦ i.least y (k, b.1) ];
      }

  low_is : (low : Option ℕ) (ps : List Place) → Low low (Counts ps) (lowest low ps)
  low_is low [] = record { from = λ x e. inl e; old = λ y e. (y, e, omega arith); least = λ y b. absurd (true_false (sym b.0)) }
  low_is low (p ∷ ps) = go (key p) (low_is low ps) (λ x. low_is (Some (lower_of x low)) ps)
    where
      go : (o : Option ℕ) → Low low (Counts ps) (lowest low ps) → ((x : ℕ) → Low (Some (lower_of x low)) (Counts ps) (lowest (Some (lower_of x low)) ps)) → Low low (More o ps) (lowest (lower_with test o low) ps)
      go None i j = record { from = i.from; old = i.old; least = i.least }
      go (Some s) i j = here (test s) refl
        where
          here : (t : Bool) → test s ≡ t → Low low (More (Some s) ps) (lowest (cond t (Some (lower_of s low)) low) ps)
          here true q = low_yes s low ps (lowest (Some (lower_of s low)) ps) q (j s)
          here false q = low_no s low ps (lowest low ps) q i

first_none : (p : ℕ → Bool) (us : List ℕ) → ((y : ℕ) → p y ≡ false) → first_of p us ≡ None
first_none p [] h = refl
first_none p (u ∷ us) h = ap (λ b. cond b (Some u) (first_of p us)) (h u) ∙ first_none p us h

first_some : (p : ℕ → Bool) (a n x : ℕ) → p x ≡ true → a ≤ x → x < a + n → ((y : ℕ) → y < x → p y ≡ false) → first_of p (range_with_len a n) ≡ Some x
first_some p a zero x e h k f = absurd (omega arith)
first_some p a (suc n) x e h k f = go (eqb a x) refl (λ l. first_some p (a + 1) n x e l (omega arith) f)
  where
    go : (b : Bool) → eqb a x ≡ b → (a + 1 ≤ x → first_of p (range_with_len (a + 1) n) ≡ Some x) → cond (p a) (Some a) (first_of p (range_with_len (a + 1) n)) ≡ Some x
    go true q g = let s = eqb-true a x q in ap (λ b. cond b (Some a) (first_of p (range_with_len (a + 1) n))) (ap p s ∙ e) ∙ ap Some s
    go false q g = let d : a < x = omega (arith, eqb-false a x q) in ap (λ b. cond b (Some a) (first_of p (range_with_len (a + 1) n))) (f a d) ∙ g (omega arith)

both_false : (a b : Bool) → ((a ≡ true) × (b ≡ true) → ⊥) → (a && b) ≡ false
both_false true true f = absurd (f (refl, refl))
both_false true false f = refl
both_false false b f = refl

-- the lowest of all places is the first of all stocks
lowest_is : (test : ℕ → Bool) (k : Kind) (xs : List Place) → sound xs ≡ true → lowest test (stock_in k) None xs ≡ first_of (λ x. any_place (held_in k x) xs && test x) all_stocks
unfolding all_stocks
lowest_is test k xs s = go (lowest test (stock_in k) None xs) (low_is test (stock_in k) None xs)
  where
    keyed : (y : ℕ) → any_place (held_in k y) xs ≡ true → any_key (stock_in k) y xs ≡ true
    keyed y h = held_same k y xs ∙ h

    go : (r : Option ℕ) → Low None (Counts test (stock_in k) xs) r → r ≡ first_of (λ x. any_place (held_in k x) xs && test x) (range_with_len 1 99999)
    go None l = sym (first_none (λ x. any_place (held_in k x) xs && test x) (range_with_len 1 99999) (λ y. both_false (any_place (held_in k y) xs) (test y) (λ b. none_some _ (l.least y (keyed y b.0, b.1)).1)))
    go (Some x) l =
        let b : (any_key (stock_in k) x xs ≡ true) × (test x ≡ true) = elim (l.from x refl) [ inl q ↦ absurd (none_some x q) | inr b ↦ b ] in
        let h : any_place (held_in k x) xs ≡ true = sym (held_same k x xs) ∙ b.0 in
        let r = held_stock k x xs s h in
        sym (first_some (λ x. any_place (held_in k x) xs && test x) 1 99999 x (and_from (any_place (held_in k x) xs) (test x) h b.1) r.0 (omega (arith, r.1))
        (λ y g. both_false (any_place (held_in k y) xs) (test y) (λ c. let u = l.least y (keyed y c.0, c.1) in omega (arith, u.2, some_same x u.0 u.1))))

-- ---- the same as the least of a list
min_turned : (x y : ℕ) → min x y ≡ min y x
min_turned x y = omega arith

module _ (test : ℕ → Bool) (key : Place → Option ℕ) where
  abbrev pub passing : List Place → List ℕ
  passing ps = filter test (filter_map key ps)

  least_from : (a : ℕ) (ps : List Place) → lowest test key (Some a) ps ≡ Some (fold min a (passing ps))
  least_from a [] = refl
  least_from a (p ∷ ps) = go (key p) (λ b. least_from b ps)
    where
      here : (x : ℕ) (t : Bool) → ((b : ℕ) → lowest test key (Some b) ps ≡ Some (fold min b (passing ps))) → lowest test key (cond t (Some (min x a)) (Some a)) ps ≡ Some (fold min a (cond t (x ∷ passing ps) (passing ps)))
      here x true j = j (min x a) ∙ ap (λ z. Some (fold min z (passing ps))) (min_turned x a)
      here x false j = j a

      go : (o : Option ℕ) → ((b : ℕ) → lowest test key (Some b) ps ≡ Some (fold min b (passing ps))) → lowest test key (lower_with test o (Some a)) ps ≡ Some (fold min a (filter test (cons_option o (filter_map key ps))))
      go None j = j a
      go (Some x) j = here x (test x) j

  least_is : (ps : List Place) → lowest test key None ps ≡ reduce min (passing ps)
  least_is [] = refl
  least_is (p ∷ ps) = go (key p) (least_is ps)
    where
      here : (x : ℕ) (t : Bool) → lowest test key None ps ≡ reduce min (passing ps) → lowest test key (cond t (Some x) None) ps ≡ reduce min (cond t (x ∷ passing ps) (passing ps))
      here x true j = least_from x ps
      here x false j = j

      go : (o : Option ℕ) → lowest test key None ps ≡ reduce min (passing ps) → lowest test key (lower_with test o None) ps ≡ reduce min (filter test (cons_option o (filter_map key ps)))
      go None j = j
      go (Some x) j = here x (test x) j

pub least_of_all : (test : ℕ → Bool) (k : Kind) (xs : List Place) → sound xs ≡ true → reduce min (filter test (filter_map (stock_in k) xs)) ≡ first_of (λ x. any_place (held_in k x) xs && test x) all_stocks
least_of_all test k xs s = sym (least_is test (stock_in k) xs) ∙ lowest_is test k xs s
