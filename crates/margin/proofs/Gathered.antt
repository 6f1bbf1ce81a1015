-- The positions of all kinds, gathered kind by kind: the greatest are the same, whatever the order within a kind.
use Rattle.std.proofs.Common.{◌≡◌, ℕ, ◌⊎◌, Bool, true, false, cond, List, [], ◌∷◌, ◌++◌, map, filter, sym, refl, ap, ◌∙◌, subst, inl, inr}
use Rattle.amounts.specs.FirstFew.{kept}
use Rattle.amounts.specs.Sets.{In, Apart, Within}
use Rattle.amounts.proofs.Keep.{kept_same}
use Rattle.amounts.proofs.Sets.{apart_map}
use Rattle.amounts.proofs.Support.{apart_counting}
use Rattle.ledger.specs.declared.terms.Kind.{Kind}
use Rattle.ledger.specs.declared.terms.Place.{Place}
use Rattle.ledger.specs.Kinds.{kind_number}
use Rattle.ledger.specs.Table.{sound}
use Rattle.margin_rules.specs.declared.terms.Holding.{Holding}
use Rattle.margin_rules.specs.Positions.{all_kinds, all_stocks, held_in, any_place, book}
use Rattle.margin_rules.specs.Answers.{larger, holdings_of_kind, holdings_of}
use Rattle.margin_rules.specs.contracts.orders.HoldingOrder.TheImpl.Laws.{strict-law}
use Rattle.margin.specs.Visits.{stock_in, visited}
use Rattle.margin.specs.Listing.{holding, listed}
use Rattle.margin.proofs.Keys.{true_false, keys_apart}
use Rattle.margin.proofs.Support.{all_apart, visited_held, held_visited, visited_within}

-- ---- lists one behind the other
module _ {X : Type 0} where
  pub in_left : (x : X) (xs ys : List X) → In x xs → In x (xs ++ ys)
  in_left x [] ys i = absurd i
  in_left x (z ∷ xs) ys (inl e) = inl e
  in_left x (z ∷ xs) ys (inr i) = inr (in_left x xs ys i)

  pub in_right : (x : X) (xs ys : List X) → In x ys → In x (xs ++ ys)
  in_right x [] ys i = i
  in_right x (z ∷ xs) ys i = inr (in_right x xs ys i)

  pub in_either : (x : X) (xs ys : List X) → In x (xs ++ ys) → In x xs ⊎ In x ys
  in_either x [] ys i = inr i
  in_either x (z ∷ xs) ys (inl e) = inl (inl e)
  in_either x (z ∷ xs) ys (inr i) = elim (in_either x xs ys i) [ inl j ↦ inl (inr j) | inr j ↦ inr j ]

  pub apart_both : (xs ys : List X) → Apart xs → Apart ys → ((x : X) → In x xs → In x ys → ⊥) → Apart (xs ++ ys)
  apart_both [] ys a b n = b
  apart_both (z ∷ xs) ys a b n = (λ i. elim (in_either z xs ys i) [ inl j ↦ a.0 j | inr j ↦ n z (inl refl) j ], apart_both xs ys a.1 b (λ x i j. n x (inr i) j))

-- ---- a filter of a list
pub in_filter : (p : ℕ → Bool) (x : ℕ) (us : List ℕ) → In x us → p x ≡ true → In x (filter p us)
in_filter p x [] i e = i
in_filter p x (u ∷ us) i e = go (p u) refl i (λ k. in_filter p x us k e)
  where
    go : (b : Bool) → p u ≡ b → In x (u ∷ us) → (In x us → In x (filter p us)) → In x (cond b (u ∷ filter p us) (filter p us))
    go true q (inl k) f = inl k
    go true q (inr k) f = inr (f k)
    go false q (inl k) f = absurd (true_false (sym e ∙ ap p k ∙ q))
    go false q (inr k) f = f k

pub of_filter : (p : ℕ → Bool) (x : ℕ) (us : List ℕ) → In x (filter p us) → In x us × (p x ≡ true)
of_filter p x [] i = absurd i
of_filter p x (u ∷ us) i = go (p u) refl (of_filter p x us) i
  where
    go : (b : Bool) → p u ≡ b → (In x (filter p us) → In x us × (p x ≡ true)) → In x (cond b (u ∷ filter p us) (filter p us)) → In x (u ∷ us) × (p x ≡ true)
    go true q f (inl k) = (inl k, ap p k ∙ q)
    go true q f (inr k) = (inr (f k).0, (f k).1)
    go false q f k = (inr (f k).0, (f k).1)

pub apart_filter : (p : ℕ → Bool) (us : List ℕ) → Apart us → Apart (filter p us)
apart_filter p [] a = tt
apart_filter p (u ∷ us) a = go (p u) (apart_filter p us a.1)
  where
    go : (b : Bool) → Apart (filter p us) → Apart (cond b (u ∷ filter p us) (filter p us))
    go true q = (λ i. a.0 (of_filter p u us i).0, q)
    go false q = q

-- ---- holdings of one kind
module _ (t : List Place) (k : Kind) where
  abbrev of : ℕ → Holding
  of x = holding t k x

  in_holdings : (x : ℕ) (us : List ℕ) → In x us → In (of x) (map of us)
  in_holdings x [] i = i
  in_holdings x (u ∷ us) (inl e) = inl (ap of e)
  in_holdings x (u ∷ us) (inr i) = inr (in_holdings x us i)

  pub of_holdings : (h : Holding) (us : List ℕ) → In h (map of us) → (x : ℕ) × In x us × (h ≡ of x)
  of_holdings h [] i = absurd i
  of_holdings h (u ∷ us) (inl e) = (u, inl refl, e)
  of_holdings h (u ∷ us) (inr i) = let r : (x : ℕ) × In x us × (h ≡ of x) = of_holdings h us i in (r.0, inr r.1, r.2)

  apart_holdings : (us : List ℕ) → Apart us → Apart (map of us)
  apart_holdings [] a = tt
  apart_holdings (u ∷ us) a = (λ i. let r = of_holdings (of u) us i in a.0 (subst (λ y. In y us) (sym (ap (λ h. h.stock) r.2)) r.1), apart_holdings us a.1)

  within_holdings : (us vs : List ℕ) → Within us vs → Within (map of us) (map of vs)
  within_holdings us vs w h i = let r = of_holdings h us i in subst (λ j. In j (map of vs)) (sym r.2) (in_holdings r.0 vs (w r.0 r.1))

  pub kind_of_holding : (h : Holding) (us : List ℕ) → In h (map of us) → h.kind ≡ k
  kind_of_holding h us i = ap (λ j. j.kind) (of_holdings h us i).2

-- ---- holdings of all kinds
abbrev pub gathered : (Kind → List Holding) → List Kind → List Holding
gathered f [] = []
gathered f (k ∷ ks) = f k ++ gathered f ks

in_gathered : (f : Kind → List Holding) → ((k : Kind) (h : Holding) → In h (f k) → h.kind ≡ k) → (h : Holding) (ks : List Kind) → In h (gathered f ks) → In h.kind ks
in_gathered f at h [] i = i
in_gathered f at h (k ∷ ks) i = elim (in_either h (f k) (gathered f ks) i) [ inl j ↦ inl (at k h j) | inr j ↦ inr (in_gathered f at h ks j) ]

apart_gathered : (f : Kind → List Holding) → ((k : Kind) (h : Holding) → In h (f k) → h.kind ≡ k) → ((k : Kind) → Apart (f k)) → (ks : List Kind) → Apart ks → Apart (gathered f ks)
apart_gathered f at one [] a = tt
apart_gathered f at one (k ∷ ks) a = apart_both (f k) (gathered f ks) (one k) (apart_gathered f at one ks a.1) (λ h i j. a.0 (subst (λ l. In l ks) (at k h i) (in_gathered f at h ks j)))

within_gathered : (f g : Kind → List Holding) → ((k : Kind) → Within (f k) (g k)) → (ks : List Kind) → Within (gathered f ks) (gathered g ks)
within_gathered f g w [] h i = i
within_gathered f g w (k ∷ ks) h i = elim (in_either h (f k) (gathered f ks) i) [ inl j ↦ in_left h (g k) (gathered g ks) (w k h j) | inr j ↦ in_right h (g k) (gathered g ks) (within_gathered f g w ks h j) ]

kinds_apart : Apart all_kinds
kinds_apart = apart_map kind_number all_kinds (apart_counting 0 4)

-- the greatest of the positions that are visited are the greatest of all
pub visited_kept : (t : List Place) → sound t ≡ true → (n : ℕ) → kept larger n (gathered (listed t) all_kinds) ≡ kept larger n (holdings_of (book t) all_stocks all_kinds)
visited_kept t s n =
    kept_same larger strict-law n (gathered (listed t) all_kinds) (gathered all all_kinds)
    (apart_gathered (listed t) (λ k h i. kind_of_holding t k h (visited (stock_in k) t) i) (λ k. apart_holdings t k (visited (stock_in k) t) (keys_apart (stock_in k) t)) all_kinds kinds_apart)
    (apart_gathered all (λ k h i. kind_of_holding t k h (filter (held k) all_stocks) i) (λ k. apart_holdings t k (filter (held k) all_stocks) (apart_filter (held k) all_stocks all_apart)) all_kinds kinds_apart)
    (within_gathered (listed t) all (λ k. within_holdings t k (visited (stock_in k) t) (filter (held k) all_stocks) (λ x i. in_filter (held k) x all_stocks (visited_within k t s x i) (visited_held k t s x i))) all_kinds)
    (within_gathered all (listed t) (λ k. within_holdings t k (filter (held k) all_stocks) (visited (stock_in k) t) (λ x i. held_visited k t s x (of_filter (held k) x all_stocks i).1)) all_kinds)
  where
    held : Kind → ℕ → Bool
    held k x = any_place (held_in k x) t

    all : Kind → List Holding
    all k = holdings_of_kind (book t) all_stocks k
