-- Tests of each byte and facts of each byte. Assumes nothing.
use Rattle.std.proofs.Common.{◌≡◌, ℕ, suc, ◌+◌, ◌≤◌, Bool, true, false, cond, eqb, List, [], ◌∷◌, ◌++◌, length, take, Ok, Err, Result, sym, refl, ◌∙◌, arith}
use Rattle.std.specs.List.{prefix_len, AllByRecursion as All}
use Rattle.std.proofs.lemmas.Bool.{cond-true, and_parts, and_from, eqb-true}
use Rattle.std.proofs.lemmas.Bool.Decides.{nat_tests}
use Rattle.parameter_text.specs.Digits.{Digit, digit, every}

pub digit_true : (b : ℕ) → Digit b → digit b ≡ true
digit_true b h = grind (arith, nat_tests)

pub digit_fact : (b : ℕ) → digit b ≡ true → Digit b
digit_fact b e = (let k : 48 ≤ b = grind (arith, nat_tests) in k, let k : b ≤ 57 = grind (arith, nat_tests) in k)

module _ (p : ℕ → Bool) (P : ℕ → Type 0) (to : (b : ℕ) → P b → p b ≡ true) (of : (b : ℕ) → p b ≡ true → P b) where
  pub every_true : (xs : List ℕ) → All P xs → every p xs ≡ true
  every_true [] h = refl
  every_true (x ∷ xs) h = and_from (p x) (every p xs) (to x h.0) (every_true xs h.1)

  pub every_fact : (xs : List ℕ) → every p xs ≡ true → All P xs
  every_fact [] e = tt
  every_fact (x ∷ xs) e = let s = and_parts (p x) (every p xs) e in (of x s.0, every_fact xs s.1)

  -- the front that passes
  pub leading_front : (w t : List ℕ) → All P w → prefix_len p t ≡ 0 → prefix_len p (w ++ t) ≡ length w
  leading_front [] t h e = e
  leading_front (x ∷ w) t h e = cond-true (p x) _ _ (to x h.0) ∙ omega (arith, leading_front w t h.1 e)

  pub front_passes : (xs : List ℕ) → All P (take (prefix_len p xs) xs)
  front_passes [] = tt
  front_passes (x ∷ xs) =
      elim (p x) as (λ t. p x ≡ t → All P (take (cond t (1 + prefix_len p xs) 0) (x ∷ xs))) [
        | true ↦ λ e. let one : 1 + prefix_len p xs ≡ suc (prefix_len p xs) = omega arith in rw one (of x e, front_passes xs)
        | false ↦ λ _. tt
      ]
      refl

pub digits_true : (xs : List ℕ) → All Digit xs → every digit xs ≡ true
digits_true = every_true digit Digit digit_true digit_fact

pub digits_fact : (xs : List ℕ) → every digit xs ≡ true → All Digit xs
digits_fact = every_fact digit Digit digit_true digit_fact

zero_true : (b : ℕ) → b ≡ 48 → eqb 48 b ≡ true
zero_true b h = grind (arith, nat_tests)

zero_fact : (b : ℕ) → eqb 48 b ≡ true → b ≡ 48
zero_fact b e = sym (eqb-true 48 b e)

pub zeros_true : (xs : List ℕ) → All (λ d. d ≡ 48) xs → every (eqb 48) xs ≡ true
zeros_true = every_true (eqb 48) (λ d. d ≡ 48) zero_true zero_fact

pub zeros_fact : (xs : List ℕ) → every (eqb 48) xs ≡ true → All (λ d. d ≡ 48) xs
zeros_fact = every_fact (eqb 48) (λ d. d ≡ 48) zero_true zero_fact

-- what an answer tells of the test before it

pub ok_cond : {X E : Type 0} (b : Bool) (r : Result X E) (e : E) (v : X) → cond b r (Err e) ≡ Ok v → (b ≡ true) × (r ≡ Ok v)
ok_cond true r e v h = (refl, h)
ok_cond false r e v h = absurd (let z : ◌≡◌ {A = ℕ} 0 1 = cc in omega arith)

pub ok_same : {X E : Type 0} (x v : X) → ◌≡◌ {A = Result X E} (Ok x) (Ok v) → x ≡ v
ok_same x v h = cc

pub ok_not_err : {X E : Type 0} (v : X) (e : E) → ◌≡◌ {A = Result X E} (Err e) (Ok v) → ⊥
ok_not_err v e h = let z : ◌≡◌ {A = ℕ} 0 1 = cc in omega arith
