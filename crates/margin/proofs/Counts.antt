-- How many of the stocks that are visited pass a test.
use Rattle.std.proofs.Common.{◌≡◌, ℕ, Bool, true, false, cond, ◌&&◌, List, [], ◌∷◌, pos, sym, refl, ap, ◌∙◌, inl, inr, arith}
use Rattle.std.proofs.lemmas.Int.{ints}
use Rattle.amounts.specs.Sums.{sum_of, count}
use Rattle.amounts.specs.Sets.{In}
use Rattle.ledger.specs.declared.terms.Kind.{Kind}
use Rattle.ledger.specs.declared.terms.Place.{Place}
use Rattle.ledger.specs.Table.{sound}
use Rattle.margin_rules.specs.Positions.{all_stocks, held_in, any_place}
use Rattle.margin.specs.Visits.{stock_in, visited}
use Rattle.margin.proofs.Support.{visited_held, visited_sum}

abbrev pub one : Bool → ℕ
one b = cond b 1 0

count_sum : (p : ℕ → Bool) (xs : List ℕ) → pos (count p xs) ≡ sum_of (λ x. pos (one (p x))) xs
count_sum p [] = refl
count_sum p (x ∷ xs) = omega (arith, ints, count_sum p xs)

count_on : (p q : ℕ → Bool) (xs : List ℕ) → ((x : ℕ) → In x xs → p x ≡ q x) → count p xs ≡ count q xs
count_on p q [] h = refl
count_on p q (x ∷ xs) h = omega (arith, ap one (h x (inl refl)), count_on p q xs (λ y i. h y (inr i)))

pos_same : (m n : ℕ) → pos m ≡ pos n → m ≡ n
pos_same m n e = omega (arith, ints)

and_yes : (a b : Bool) → b ≡ true → a ≡ (a && b)
and_yes true b e = sym e
and_yes false b e = refl

and_no : (a b : Bool) → b ≡ false → one (a && b) ≡ 0
and_no true b e = ap one e
and_no false b e = refl

-- those that pass a test among the visited are those that pass it and are held among all
pub visited_count : (k : Kind) (ps : List Place) → sound ps ≡ true → (p : ℕ → Bool) → count p (visited (stock_in k) ps) ≡ count (λ x. p x && any_place (held_in k x) ps) all_stocks
visited_count k ps s p =
    count_on p both (visited (stock_in k) ps) (λ x i. and_yes (p x) (any_place (held_in k x) ps) (visited_held k ps s x i))
    ∙ pos_same (count both (visited (stock_in k) ps)) (count both all_stocks)
    (count_sum both (visited (stock_in k) ps) ∙ visited_sum k ps s (λ x. pos (one (both x))) (λ x e. ap pos (and_no (p x) (any_place (held_in k x) ps) e)) ∙ sym (count_sum both all_stocks))
  where
    both : ℕ → Bool
    both x = p x && any_place (held_in k x) ps
