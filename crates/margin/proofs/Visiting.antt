-- What is visited, and sums over it, one key after the other.
use Rattle.std.proofs.Common.{◌≡◌, ℕ, suc, ◌+◌, ◌*◌, ◌<◌, ◌≤◌, Bool, true, false, cond, List, [], ◌∷◌, map, length, filter, get_or, replicate, ℤ, pos, ◌+ℤ◌, nat_abs, unsigned_abs, Some, None, Option, refl, ap, ◌∙◌, arith}
use Rattle.std.specs.List.{range_with_len, AllByRecursion as All}
use Rattle.std.proofs.ByRecursion.{All-from_get_or}
use Rattle.std.proofs.lemmas.List.{get_or-replicate}
use Rattle.std.proofs.lemmas.List.FromFn.{get_or-map-range_with_len, fill_by_all}
use Rattle.std.proofs.lemmas.Int.{ints}
use Rattle.amounts.specs.Sums.{sum_of, when, count}
use Rattle.return_source.specs.Meaning.{Meaning}
use Rattle.ledger.specs.declared.terms.Kind.{Kind}
use Rattle.ledger.specs.declared.terms.Kind.TheVariants.{Stock}
use Rattle.ledger.specs.declared.terms.Place.{Place}
use Rattle.ledger.specs.declared.terms.Settings.{Settings}
use Rattle.margin.specs.declared.parts.Part.{Part}
use Rattle.margin.specs.Visits.{stock_in, rate_in, any_key, last_key, onto, visited}
use Rattle.margin.specs.Parts.{belongs}

-- the keys that count: each stock of a kind, each stock of a part, each rate of the flat tier
abbrev pub visits : (ℕ → Bool) → (Place → Option ℕ) → List Place → List ℕ
visits p key ps = filter p (visited key ps)

abbrev pub stocks : Kind → List Place → List ℕ
stocks k ps = visits (λ x. true) (stock_in k) ps

abbrev pub part_stocks : Meaning → Settings → Part → List Place → List ℕ
part_stocks m s part ps = visits (belongs m s part) (stock_in Stock) ps

abbrev pub flat_rates : Meaning → List Place → List ℕ
flat_rates m ps = visits (λ x. true) (rate_in m) ps

-- ---- sums: what is summed so far and what is left make the whole, and each key has added at most `most`
pub record Visiting (most : ℕ) (f : ℕ → ℤ) (all left : List ℕ) (s : ℤ) : Type 0 where
  pub whole : s +ℤ sum_of f left ≡ sum_of f all
  pub size : nat_abs s + most * length left ≤ most * length all

module _ (most : ℕ) (f : ℕ → ℤ) (all : List ℕ) where
  pub visiting_start : (left : List ℕ) → left ≡ all → Visiting most f all left (pos 0)
  visiting_start left e =
      let n : most * length left ≡ most * length all = ap (λ l. most * length l) e in
      record { whole = omega (arith, ints, ap (sum_of f) e); size = omega arith }

  pub visiting_more : (left rest : List ℕ) (q : ℕ) (s v t : ℤ) → left ≡ q ∷ rest → v ≡ f q → nat_abs v ≤ most → t ≡ s +ℤ v → Visiting most f all left s → Visiting most f all rest t
  visiting_more left rest q s v t e w b a k =
      let z : sum_of f left ≡ f q +ℤ sum_of f rest = ap (sum_of f) e in
      let l : length left ≡ length rest + 1 = ap length e ∙ omega arith in
      let n : most * length left ≡ most * (length rest + 1) = ap (λ j. most * j) l in
      record { whole = omega (arith, ints, k.whole); size = omega (arith, ints, k.size) }

  pub visiting_end : (left : List ℕ) (s : ℤ) → left ≡ [] → Visiting most f all left s → s ≡ sum_of f all
  visiting_end left s e k = let z : sum_of f left ≡ pos 0 = ap (sum_of f) e in omega (arith, ints, k.whole)

-- ---- totals of n scenarios
pub record SoFar (f : ℕ → ℕ → ℤ) (n : ℕ) (all left : List ℕ) (ts : List ℤ) : Type 0 where
  pub sums : (j : ℕ) → j < n → get_or ts j (pos 0) +ℤ sum_of (f j) left ≡ sum_of (f j) all
  pub small : (j : ℕ) → j < n → unsigned_abs (get_or ts j (pos 0)) + 80000000000 * length left ≤ 80000000000 * length all

module _ (f : ℕ → ℕ → ℤ) (n : ℕ) (all : List ℕ) where
  pub so_far_start : (left : List ℕ) (ts : List ℤ) → left ≡ all → length ts ≡ n → ts ≡ replicate (length ts) (pos 0) → SoFar f n all left ts
  so_far_start left ts e l z =
      record {
        sums = λ j h. let s : sum_of (f j) left ≡ sum_of (f j) all = ap (sum_of (f j)) e in omega (arith, ints, at j h);
        small = λ j h. omega (arith, ints, at j h, ap length e);
      }
    where
      at : (j : ℕ) → j < n → get_or ts j (pos 0) ≡ pos 0
      at j h = ap (λ l. get_or l j (pos 0)) z ∙ get_or-replicate (length ts) j (pos 0) (pos 0) (omega arith)

  pub so_far_more : (left rest : List ℕ) (x : ℕ) (ts us : List ℤ) → left ≡ x ∷ rest → length ts ≡ n → us ≡ map (λ j. get_or ts j (pos 0) +ℤ f j x) (range_with_len 0 (length ts)) → ((j : ℕ) → j < n → unsigned_abs (f j x) ≤ 80000000000) → SoFar f n all left ts → SoFar f n all rest us
  so_far_more left rest x ts us e l is b k =
      record {
        sums = λ j h. let s : sum_of (f j) left ≡ f j x +ℤ sum_of (f j) rest = ap (sum_of (f j)) e in omega (arith, ints, at j h, k.sums j h);
        small = λ j h. let m : length left ≡ length rest + 1 = ap length e ∙ omega arith in omega (arith, ints, at j h, b j h, k.small j h);
      }
    where
      at : (j : ℕ) → j < n → get_or us j (pos 0) ≡ get_or ts j (pos 0) +ℤ f j x
      at j h = ap (λ l. get_or l j (pos 0)) is ∙ get_or-map-range_with_len (λ j. get_or ts j (pos 0) +ℤ f j x) 0 (length ts) j j (pos 0) (omega arith) (omega arith)

  pub so_far_end : (left : List ℕ) (ts : List ℤ) → left ≡ [] → length ts ≡ n → SoFar f n all left ts → ts ≡ map (λ j. sum_of (f j) all) (range_with_len 0 n)
  so_far_end left ts e l k =
      fill_by_all (λ j. sum_of (f j) all) ts n (pos 0) l
      (λ j h. let s : sum_of (f j) left ≡ pos 0 = ap (sum_of (f j)) e in omega (arith, ints, k.sums j h))

  pub so_far_all : (left : List ℕ) (ts : List ℤ) (b : ℕ) → 80000000000 * length all ≤ b → length ts ≡ n → SoFar f n all left ts → All (λ t. unsigned_abs t ≤ b) ts
  so_far_all left ts b h l k = All-from_get_or (λ t. unsigned_abs t ≤ b) ts (pos 0) (λ j m. omega (arith, k.small j (omega arith)))

-- ---- the keys that pass a test
pub sum_filter : (p : ℕ → Bool) (f : ℕ → ℤ) (xs : List ℕ) → sum_of f (filter p xs) ≡ sum_of (λ x. when (p x) (f x)) xs
sum_filter p f [] = refl
sum_filter p f (x ∷ xs) = go (p x) (sum_filter p f xs)
  where
    go : (b : Bool) → sum_of f (filter p xs) ≡ sum_of (λ x. when (p x) (f x)) xs → sum_of f (cond b (x ∷ filter p xs) (filter p xs)) ≡ when b (f x) +ℤ sum_of (λ x. when (p x) (f x)) xs
    go true e = ap (λ z. f x +ℤ z) e
    go false e = omega (arith, ints, e)

pub count_filter : (p : ℕ → Bool) (xs : List ℕ) → length (filter p xs) ≡ count p xs
count_filter p [] = refl
count_filter p (x ∷ xs) = go (p x) (count_filter p xs)
  where
    go : (b : Bool) → length (filter p xs) ≡ count p xs → length (cond b (x ∷ filter p xs) (filter p xs)) ≡ cond b 1 0 + count p xs
    go true e = omega (arith, e)
    go false e = omega (arith, e)

pub filter_all : (xs : List ℕ) → filter (λ x. true) xs ≡ xs
filter_all [] = refl
filter_all (x ∷ xs) = ap (λ l. x ∷ l) (filter_all xs)

filter_few : (p : ℕ → Bool) (xs : List ℕ) → length (filter p xs) ≤ length xs
filter_few p [] = omega arith
filter_few p (x ∷ xs) = go (p x) (filter_few p xs)
  where
    go : (b : Bool) → length (filter p xs) ≤ length xs → length (cond b (x ∷ filter p xs) (filter p xs)) ≤ suc (length xs)
    go true e = omega (arith, e)
    go false e = omega (arith, e)

visited_few : (key : Place → Option ℕ) (ps : List Place) → length (visited key ps) ≤ length ps
visited_few key [] = omega arith
visited_few key (p ∷ ps) = go (last_key (key p) (λ q. any_key key q ps)) (visited_few key ps)
  where
    go : (o : Option ℕ) → length (visited key ps) ≤ length ps → length (onto o (visited key ps)) ≤ suc (length ps)
    go None e = omega (arith, e)
    go (Some q) e = omega (arith, e)

-- no more keys are visited than there are places
pub visits_few : (p : ℕ → Bool) (key : Place → Option ℕ) (ps : List Place) → length (visits p key ps) ≤ length ps
visits_few p key ps = omega (arith, filter_few p (visited key ps), visited_few key ps)
