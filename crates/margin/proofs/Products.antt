-- A row added to the totals, place by place. Assumes nothing.
use Rattle.std.proofs.Common.{◌≡◌, ℕ, suc, ◌+◌, ◌*◌, ◌^◌, ◌<◌, ◌≤◌, Bool, true, false, cond, nat_lt, ◌⊎◌, List, ◌++◌, map, length, get_or, take, drop, ℤ, pos, negsuc, ◌+ℤ◌, ◌*ℤ◌, neg_ℤ, ◌/◌, mul-le-mul, unsigned_abs, IfSome, Some, None, Ok, Err, Option, sym, refl, ap, ◌∙◌, subst, inl, inr, arith}
use Rattle.std.specs.List.{range_with_len}
use Rattle.std.proofs.lemmas.List.FromFn.{fill_by_all}
use Rattle.std.proofs.ByRecursion.{All-get_or}
use Rattle.std.proofs.lemmas.List.{take_at, get_or_past}
use Rattle.std.proofs.lemmas.Int.{ints, unsigned_abs-mul}
use Rattle.std.proofs.lemmas.Bool.{le-ltb, cases_lt}
use Rattle.amounts.specs.Rounding.{round_off}
use Rattle.return_source.specs.declared.terms.RowRefusal.TheVariants.{ShortSheet}
use Rattle.return_source.specs.declared.terms.ScenarioSet.{ScenarioSet}
use Rattle.return_source.specs.declared.terms.ScenarioSet.TheVariants.{Historical, Stress}
use Rattle.return_source.specs.Meaning.{Meaning, row_answer, row_sheet}
use Rattle.return_source.specs.Lawful.{Lawful, LawfulRow, scenario_count}
use Rattle.margin_rules.specs.Portfolio.{scenarios, return_at, rounded_product}
use Rattle.margin.specs.Adding.{with_products}

-- each total with what a row adds to it
abbrev pub with_returns : ℤ → Option (List ℤ) → List ℤ → List ℤ
with_returns v o ts = map (λ i. get_or ts i (pos 0) +ℤ rounded_product v (return_at o i)) (range_with_len 0 (length ts))

pub products_are : (v : ℤ) (xs ts : List ℤ) (o : Option (List ℤ)) → o ≡ Some xs → with_products v xs ts ≡ with_returns v o ts
products_are v xs ts o e = ap (λ q. with_returns v q ts) (sym e)

zero_right : (v : ℤ) → v *ℤ pos 0 ≡ pos 0
zero_right v = omega (arith, ints)

zero_left : (v : ℤ) → pos 0 *ℤ v ≡ pos 0
zero_left v = omega (arith, ints)

product_zero : (v : ℤ) → rounded_product v (pos 0) ≡ pos 0
product_zero v = ap (round_off (10 ^ 8)) (zero_right v)

pub zero_product : (v : ℤ) → rounded_product (pos 0) v ≡ pos 0
zero_product v = ap (round_off (10 ^ 8)) (zero_left v)

pub none_added : (v : ℤ) (ts : List ℤ) (o : Option (List ℤ)) → o ≡ None → ts ≡ with_returns v o ts
none_added v ts o e =
    fill_by_all (λ i. get_or ts i (pos 0) +ℤ rounded_product v (return_at o i)) ts (length ts) (pos 0) refl
    (λ i h. omega (arith, ints, product_zero v) ∙ ap (λ q. get_or ts i (pos 0) +ℤ rounded_product v (return_at q i)) (sym e))

-- what was written is the row
pub row_written : (o : Option (List ℤ)) (sheet : List ℤ) (n : ℕ) → Ok n ≡ row_answer o (length sheet) → (xs : List ℤ) × (o ≡ Some xs) × (take n (row_sheet o sheet) ≡ xs)
row_written None sheet n e = absurd (cc)
row_written (Some xs) sheet n e = (xs, refl, go (nat_lt (length sheet) (length xs)) e)
  where
    go : (b : Bool) → Ok n ≡ cond b (Err ShortSheet) (Ok (length xs)) → take n (cond b sheet (xs ++ drop (length xs) sheet)) ≡ xs
    go true q = absurd (cc)
    go false q = let k : length xs ≡ n = cc in take_at xs (drop (length xs) sheet) n k

pub row_none : (o : Option (List ℤ)) (sheet : List ℤ) (count : ℕ) → IfSome o (LawfulRow count) → count ≤ length sheet → ((n : ℕ) → row_answer o (length sheet) ≡ Ok n → ⊥) → o ≡ None
row_none None sheet count f h ne = refl
row_none (Some xs) sheet count f h ne = absurd (ne (length xs) (ap (λ b. cond b (Err ShortSheet) (Ok (length xs))) (le-ltb (length sheet) (length xs) (omega (arith, f.long)))))

-- a return is small
return_small : (o : Option (List ℤ)) (count i : ℕ) → IfSome o (LawfulRow count) → unsigned_abs (return_at o i) ≤ 400000000
return_small None count i f = omega arith
return_small (Some xs) count i f = go (cases_lt i (length xs))
  where
    go : (i < length xs) ⊎ (length xs ≤ i) → unsigned_abs (get_or xs i (pos 0)) ≤ 400000000
    go (inl h) = All-get_or (λ z. unsigned_abs z ≤ 400000000) xs i (pos 0) h f.small
    go (inr h) = let e = get_or_past xs i (pos 0) h in omega (arith, ap unsigned_abs e)

abs_neg : (z : ℤ) → unsigned_abs (neg_ℤ z) ≡ unsigned_abs z
abs_neg z = omega (arith, ints)

off_within : (z : ℤ) → unsigned_abs z ≤ 8000000000000000000 → unsigned_abs (round_off (10 ^ 8) z) ≤ 80000000000
off_within (pos n) h = omega arith
off_within (negsuc n) h = omega (arith, ints, abs_neg (pos ((2 * suc n + 100000000) / 200000000)))

pub product_small : (v : ℤ) (o : Option (List ℤ)) (count i : ℕ) → IfSome o (LawfulRow count) → unsigned_abs v ≤ 20000000000 → unsigned_abs (rounded_product v (return_at o i)) ≤ 80000000000
product_small v o count i f h =
    let r = return_small o count i f in
    let k : unsigned_abs v * unsigned_abs (return_at o i) ≤ 20000000000 * 400000000 = mul-le-mul h r in
    off_within (v *ℤ return_at o i) (omega (arith, unsigned_abs-mul v (return_at o i)))

pub count_is : (m : Meaning) (w : ScenarioSet) → scenario_count m.parameters w ≡ (scenarios m w).count
count_is m Historical = refl
count_is m Stress = refl

-- every row of a lawful source has a return for each scenario of its set
pub row_of : (m : Meaning) → Lawful m → (w : ScenarioSet) (x : ℕ) → IfSome (m.returns w x) (LawfulRow (scenarios m w).count)
row_of m law w x = subst (λ n. IfSome (m.returns w x) (LawfulRow n)) (count_is m w) (law.rows w x)

pub tail_few : (m : Meaning) → Lawful m → (w : ScenarioSet) → (scenarios m w).tail ≤ 100
tail_few m law Historical = law.parameters.historical.tail_few
tail_few m law Stress = law.parameters.stress.tail_few
