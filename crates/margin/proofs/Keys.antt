-- Passes by a key: each key is visited once, at the last of its places.
use Rattle.std.proofs.Common.{◌≡◌, ℕ, Bool, true, false, cond, ◌||◌, eqb, List, [], ◌∷◌, ℤ, pos, Some, None, Option, sym, refl, ap, ◌∙◌, inl, inr, arith, eq-eqb, eqb-true}
use Rattle.std.proofs.lemmas.Bool.{cases_Bool}
use Rattle.std.specs.List.{list_any}
use Rattle.amounts.specs.Sums.{sum_of}
use Rattle.amounts.specs.Sets.{In, Apart}
use Rattle.amounts.proofs.Support.{sum_support}
use Rattle.ledger.specs.declared.terms.Place.{Place}
use Rattle.margin.specs.Visits.{is_key, any_key, last_key, onto, visited}

pub true_false : true ≡ false → ⊥
true_false e = let z : ◌≡◌ {A = ℕ} 0 1 = cc in omega arith

-- a search for a key asks each place
pub any_key_is : (key : Place → Option ℕ) (q : ℕ) (ps : List Place) → any_key key q ps ≡ list_any (λ p. is_key q (key p)) ps
any_key_is key q [] = refl
any_key_is key q (p ∷ ps) = ap (λ b. is_key q (key p) || b) (any_key_is key q ps)

module _ (key : Place → Option ℕ) where
  or_more : (b c : Bool) → c ≡ true → (b || c) ≡ true
  or_more true c e = refl
  or_more false c e = e

  -- what is visited is a key of a place
  pub keys_any : (x : ℕ) (ps : List Place) → In x (visited key ps) → any_key key x ps ≡ true
  keys_any x [] i = absurd i
  keys_any x (p ∷ ps) i = go (key p) (keys_any x ps) i
    where
      this : (q : ℕ) (b : Bool) → (In x (visited key ps) → any_key key x ps ≡ true) → In x (onto (cond b None (Some q)) (visited key ps)) → (eqb x q || any_key key x ps) ≡ true
      this q true f k = or_more (eqb x q) (any_key key x ps) (f k)
      this q false f (inl e) = ap (λ b. b || any_key key x ps) (eq-eqb x q e)
      this q false f (inr k) = or_more (eqb x q) (any_key key x ps) (f k)

      go : (o : Option ℕ) → (In x (visited key ps) → any_key key x ps ≡ true) → In x (onto (last_key o (λ q. any_key key q ps)) (visited key ps)) → (is_key x o || any_key key x ps) ≡ true
      go None f k = f k
      go (Some q) f k = this q (any_key key q ps) f k

  -- every key of a place is visited
  pub any_keys : (x : ℕ) (ps : List Place) → any_key key x ps ≡ true → In x (visited key ps)
  any_keys x [] h = absurd (true_false (sym h))
  any_keys x (p ∷ ps) h = go (key p) h (any_keys x ps)
    where
      this : (q : ℕ) (b : Bool) → any_key key q ps ≡ b → (c : Bool) → eqb x q ≡ c → (c || any_key key x ps) ≡ true → (any_key key x ps ≡ true → In x (visited key ps)) → In x (onto (cond b None (Some q)) (visited key ps))
      this q true u true v k f = f (ap (λ y. any_key key y ps) (eqb-true x q v) ∙ u)
      this q true u false v k f = f k
      this q false u true v k f = inl (eqb-true x q v)
      this q false u false v k f = inr (f k)

      go : (o : Option ℕ) → (is_key x o || any_key key x ps) ≡ true → (any_key key x ps ≡ true → In x (visited key ps)) → In x (onto (last_key o (λ q. any_key key q ps)) (visited key ps))
      go None k f = f k
      go (Some q) k f = this q (any_key key q ps) refl (eqb x q) refl k f

  -- no key is visited twice
  pub keys_apart : (ps : List Place) → Apart (visited key ps)
  keys_apart [] = tt
  keys_apart (p ∷ ps) = go (key p) (keys_apart ps)
    where
      this : (q : ℕ) (b : Bool) → any_key key q ps ≡ b → Apart (visited key ps) → Apart (onto (cond b None (Some q)) (visited key ps))
      this q true u a = a
      this q false u a = (λ i. true_false (sym (keys_any q ps i) ∙ u), a)

      go : (o : Option ℕ) → Apart (visited key ps) → Apart (onto (last_key o (λ q. any_key key q ps)) (visited key ps))
      go None a = a
      go (Some q) a = this q (any_key key q ps) refl a

  -- where every key is one of the numbers us, and a figure is nothing at all others, its sum over the keys is that over us
  pub keys_sum : (ps : List Place) (us : List ℕ) → Apart us → ((x : ℕ) → any_key key x ps ≡ true → In x us) → (f : ℕ → ℤ) → ((x : ℕ) → any_key key x ps ≡ false → f x ≡ pos 0) → sum_of f (visited key ps) ≡ sum_of f us
  keys_sum ps us a w f h =
      sum_support f (visited key ps) us (keys_apart ps) a (λ x i. w x (keys_any x ps i))
      (λ x i n. h x (elim (cases_Bool (any_key key x ps)) [ inl e ↦ absurd (n (any_keys x ps e)) | inr e ↦ e ]))
