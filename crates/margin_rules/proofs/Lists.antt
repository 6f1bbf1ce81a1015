-- Holdings and instruments that a pass over few stocks finds are those found over all stocks.
use Rattle.std.proofs.Common.{◌≡◌, ℕ, zero, suc, ◌+◌, ◌<◌, ◌≤◌, Bool, true, false, cond, ◌⊎◌, eqb, List, [], ◌∷◌, ◌++◌, map, ℤ, Some, None, filter, sym, refl, ap, ◌∙◌, subst, inl, inr, arith, rules, eqb-true}
use borrow.Author.Tests.{eqb-false}
use Rattle.std.specs.List.{range_with_len}
use Rattle.amounts.specs.Sets.{In, Apart, Within}
use Rattle.amounts.specs.FirstFew.{kept}
use Rattle.amounts.proofs.Keep.{kept_same}
use Rattle.amounts.proofs.Sets.{in_map, un_map}
use Rattle.ledger.specs.declared.terms.Kind.{Kind}
use Rattle.margin_rules.specs.declared.terms.Holding.{Holding}
use Rattle.margin_rules.specs.Positions.{Book, all_kinds, all_stocks}
use Rattle.margin_rules.specs.Answers.{larger, first_of, holdings_of, holdings_of_kind, padded, no_holding, list_of}
use Rattle.margin_rules.proofs.StrictOrders.{larger_strict}
use Rattle.margin_rules.proofs.Few.{apart_stocks}

-- ---- lists as sets

pub in_left : {X : Type 0} (x : X) (xs ys : List X) → In x xs → In x (xs ++ ys)
in_left x [] ys i = absurd i
in_left x (z ∷ zs) ys (inl e) = inl e
in_left x (z ∷ zs) ys (inr i) = inr (in_left x zs ys i)

pub in_right : {X : Type 0} (x : X) (xs ys : List X) → In x ys → In x (xs ++ ys)
in_right x [] ys i = i
in_right x (z ∷ zs) ys i = inr (in_right x zs ys i)

pub in_either : {X : Type 0} (x : X) (xs ys : List X) → In x (xs ++ ys) → In x xs ⊎ In x ys
in_either x [] ys i = inr i
in_either x (z ∷ zs) ys (inl e) = inl (inl e)
in_either x (z ∷ zs) ys (inr i) = elim (in_either x zs ys i) [ inl j ↦ inl (inr j) | inr j ↦ inr j ]

pub apart_append : {X : Type 0} (xs ys : List X) → Apart xs → Apart ys → ((x : X) → In x xs → In x ys → ⊥) → Apart (xs ++ ys)
apart_append [] ys a b n = b
apart_append (x ∷ xs) ys a b n =
    (λ i. elim (in_either x xs ys i) [ inl j ↦ a.0 j | inr j ↦ n x (inl refl) j ], apart_append xs ys a.1 b (λ z i j. n z (inr i) j))

true_false : true ≡ false → ⊥
true_false e = let z : ◌≡◌ {A = ℕ} 0 1 = cc in omega arith

pub in_filter : (p : ℕ → Bool) (x : ℕ) (us : List ℕ) → In x us → p x ≡ true → In x (filter p us)
in_filter p x [] i e = absurd i
in_filter p x (u ∷ us) i e = go (p u) refl i (λ k. in_filter p x us k e)
  where
    go : (b : Bool) → p u ≡ b → In x (u ∷ us) → (In x us → In x (filter p us)) → In x (cond b (u ∷ filter p us) (filter p us))
    go true q (inl k) f = inl k
    go true q (inr k) f = inr (f k)
    go false q (inl k) f = absurd (true_false (sym e ∙ ap p k ∙ q))
    go false q (inr k) f = f k

pub of_filter : (p : ℕ → Bool) (x : ℕ) (us : List ℕ) → In x (filter p us) → In x us × (p x ≡ true)
of_filter p x [] i = absurd i
of_filter p x (u ∷ us) i = go (p u) refl (of_filter p x us) i
  where
    go : (b : Bool) → p u ≡ b → (In x (filter p us) → In x us × (p x ≡ true)) → In x (cond b (u ∷ filter p us) (filter p us)) → In x (u ∷ us) × (p x ≡ true)
    go true q f (inl k) = (inl k, ap p k ∙ q)
    go true q f (inr k) = (inr (f k).0, (f k).1)
    go false q f k = (inr (f k).0, (f k).1)

pub apart_filter : (p : ℕ → Bool) (us : List ℕ) → Apart us → Apart (filter p us)
apart_filter p [] a = tt
apart_filter p (u ∷ us) a = go (p u) (apart_filter p us a.1)
  where
    go : (b : Bool) → Apart (filter p us) → Apart (cond b (u ∷ filter p us) (filter p us))
    go true q = (λ i. a.0 (of_filter p u us i).0, q)
    go false q = q

-- ---- holdings

abbrev pub holding : (Kind → ℕ → ℤ) → Kind → ℕ → Holding
holding mv k x = record { kind = k; stock = x; market_value = mv k x }

-- the holdings over some stocks of each kind
abbrev pub holdings_on : (Kind → ℕ → ℤ) → (Kind → List ℕ) → List Kind → List Holding
holdings_on mv ks [] = []
holdings_on mv ks (k ∷ r) = map (holding mv k) (ks k) ++ holdings_on mv ks r

pub holdings_on_filter : (b : Book) (us : List ℕ) (r : List Kind) → holdings_on b.market (λ k. filter (b.held k) us) r ≡ holdings_of b us r
holdings_on_filter b us [] = refl
holdings_on_filter b us (k ∷ r) = ap (λ l. holdings_of_kind b us k ++ l) (holdings_on_filter b us r)

-- where a holding comes from
record From (mv : Kind → ℕ → ℤ) (ks : Kind → List ℕ) (r : List Kind) (h : Holding) : Type 0 where
  kind : Kind
  stock : ℕ
  of_kind : In kind r
  of_stock : In stock (ks kind)
  is : h ≡ holding mv kind stock

module _ (mv : Kind → ℕ → ℤ) (ks : Kind → List ℕ) where
  comes : (r : List Kind) (h : Holding) → In h (holdings_on mv ks r) → From mv ks r h
  comes [] h i = absurd i
  comes (k ∷ r) h i = go (in_either h (map (holding mv k) (ks k)) (holdings_on mv ks r) i) (comes r h)
    where
      go : In h (map (holding mv k) (ks k)) ⊎ In h (holdings_on mv ks r) → (In h (holdings_on mv ks r) → From mv ks r h) → From mv ks (k ∷ r) h
      go (inl j) c = let w : (x : ℕ) × In x (ks k) × (h ≡ holding mv k x) = un_map (holding mv k) h (ks k) j in record { kind = k; stock = w.0; of_kind = inl refl; of_stock = w.1; is = w.2 }
      go (inr j) c = let f = c j in record { kind = f.kind; stock = f.stock; of_kind = inr f.of_kind; of_stock = f.of_stock; is = f.is }

  there : (r : List Kind) (k : Kind) (x : ℕ) → In k r → In x (ks k) → In (holding mv k x) (holdings_on mv ks r)
  there [] k x i j = absurd i
  there (l ∷ r) k x (inl e) j = in_left (holding mv k x) (map (holding mv l) (ks l)) (holdings_on mv ks r) (subst (λ w. In (holding mv k x) (map (holding mv w) (ks w))) e (in_map (holding mv k) x (ks k) j))
  there (l ∷ r) k x (inr i) j = in_right (holding mv k x) (map (holding mv l) (ks l)) (holdings_on mv ks r) (there r k x i j)

  apart_of_kind : (k : Kind) (xs : List ℕ) → Apart xs → Apart (map (holding mv k) xs)
  apart_of_kind k [] a = tt
  apart_of_kind k (x ∷ xs) a = (λ i. again (un_map (holding mv k) (holding mv k x) xs i), apart_of_kind k xs a.1)
    where
      again : (y : ℕ) × In y xs × (holding mv k x ≡ holding mv k y) → ⊥
      again w = a.0 (subst (λ y. In y xs) (sym (ap (λ h. h.stock) w.2)) w.1)

  pub apart_holdings : (r : List Kind) → Apart r → ((k : Kind) → Apart (ks k)) → Apart (holdings_on mv ks r)
  apart_holdings [] a s = tt
  apart_holdings (k ∷ r) a s = apart_append (map (holding mv k) (ks k)) (holdings_on mv ks r) (apart_of_kind k (ks k) (s k)) (apart_holdings r a.1 s) other
    where
      other : (h : Holding) → In h (map (holding mv k) (ks k)) → In h (holdings_on mv ks r) → ⊥
      other h i j =
          let w : (x : ℕ) × In x (ks k) × (h ≡ holding mv k x) = un_map (holding mv k) h (ks k) i in
          let f = comes r h j in
          a.0 (subst (λ l. In l r) (ap (λ h. h.kind) (sym f.is ∙ w.2)) f.of_kind)

pub within_holdings : (mv : Kind → ℕ → ℤ) (ks js : Kind → List ℕ) (r : List Kind) → ((k : Kind) → Within (ks k) (js k)) → Within (holdings_on mv ks r) (holdings_on mv js r)
within_holdings mv ks js r w h i = let f = comes mv ks r h i in subst (λ g. In g (holdings_on mv js r)) (sym f.is) (there mv js r f.kind f.stock f.of_kind (w f.kind f.stock f.of_stock))

pub apart_kinds : Apart all_kinds
apart_kinds = search rules

-- ks are, for each kind, the stocks held, each once
pub record HeldOf (us : List ℕ) (held : Kind → ℕ → Bool) (ks : Kind → List ℕ) : Type 0 where
  pub apart : (k : Kind) → Apart (ks k)
  pub within : (k : Kind) → Within (ks k) us
  pub is_held : (k : Kind) (x : ℕ) → In x (ks k) → held k x ≡ true
  pub all : (k : Kind) (x : ℕ) → In x us → held k x ≡ true → In x (ks k)

-- the greatest holdings over the stocks held are those over all stocks
pub kept_holdings : (b : Book) (ks : Kind → List ℕ) → HeldOf all_stocks b.held ks → (n : ℕ) → kept larger n (holdings_on b.market ks all_kinds) ≡ kept larger n (holdings_of b all_stocks all_kinds)
kept_holdings b ks h n =
    kept_same larger larger_strict n (holdings_on b.market ks all_kinds) (holdings_on b.market fs all_kinds)
    (apart_holdings b.market ks all_kinds apart_kinds h.apart) (apart_holdings b.market fs all_kinds apart_kinds (λ k. apart_filter (b.held k) all_stocks apart_stocks))
    (within_holdings b.market ks fs all_kinds (λ k x i. in_filter (b.held k) x all_stocks (h.within k x i) (h.is_held k x i)))
    (within_holdings b.market fs ks all_kinds (λ k x i. let p = of_filter (b.held k) x all_stocks i in h.all k x p.0 p.1))
    ∙ ap (kept larger n) (holdings_on_filter b all_stocks all_kinds)
  where
    fs : Kind → List ℕ
    fs k = filter (b.held k) all_stocks

-- the holdings list, from the stocks held
pub list_is : (b : Book) (ks : Kind → List ℕ) → HeldOf all_stocks b.held ks → (n : ℕ) → padded n no_holding (kept larger n (holdings_on b.market ks all_kinds)) ≡ list_of n all_stocks b
unfolding list_of
list_is b ks h n = ap (padded n no_holding) (kept_holdings b ks h n)

-- ---- the first stock that passes a test

first_upto : (p : ℕ → Bool) (y a n : ℕ) → a ≤ y → y < a + n → p y ≡ true → ((x : ℕ) → a ≤ x → x < y → p x ≡ false) → first_of p (range_with_len a n) ≡ Some y
first_upto p y a zero l h e f = absurd (omega arith)
first_upto p y a (suc n) l h e f = go (eqb a y) refl (λ k. first_upto p y (a + 1) n (omega arith) (omega arith) e (λ x i j. f x (omega arith) j))
  where
    go : (t : Bool) → eqb a y ≡ t → (a < y → first_of p (range_with_len (a + 1) n) ≡ Some y) → cond (p a) (Some a) (first_of p (range_with_len (a + 1) n)) ≡ Some y
    go true q r = let s = eqb-true a y q in ap (λ b. cond b (Some a) (first_of p (range_with_len (a + 1) n))) (ap p s ∙ e) ∙ ap Some s
    go false q r = let k : a < y = omega (arith, eqb-false a y q) in ap (λ b. cond b (Some a) (first_of p (range_with_len (a + 1) n))) (f a (omega arith) k) ∙ r k

pub first_is : (p : ℕ → Bool) (y : ℕ) → 1 ≤ y → y ≤ 99999 → p y ≡ true → ((x : ℕ) → 1 ≤ x → x < y → p x ≡ false) → first_of p all_stocks ≡ Some y
unfolding all_stocks
first_is p y l h e f = first_upto p y 1 99999 l (omega arith) e f

none_in : (p : ℕ → Bool) (a n : ℕ) → ((x : ℕ) → a ≤ x → x < a + n → p x ≡ false) → first_of p (range_with_len a n) ≡ None
none_in p a zero f = refl
none_in p a (suc n) f = ap (λ b. cond b (Some a) (first_of p (range_with_len (a + 1) n))) (f a (omega arith) (omega arith)) ∙ none_in p (a + 1) n (λ x l h. f x (omega arith) (omega arith))

pub first_none : (p : ℕ → Bool) → ((x : ℕ) → 1 ≤ x → x ≤ 99999 → p x ≡ false) → first_of p all_stocks ≡ None
unfolding all_stocks
first_none p f = none_in p 1 99999 (λ x l h. f x l (omega arith))
