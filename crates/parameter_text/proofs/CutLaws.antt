-- Cutting a list at each b, and putting the parts together again. Assumes nothing.
use Rattle.std.proofs.Common.{◌≡◌, ℕ, zero, suc, ◌+◌, ◌-◌, ◌<◌, ◌≤◌, Bool, true, false, ◌&&◌, cond, not, eqb, ltb, Some, None, Option, List, [], ◌∷◌, ◌++◌, length, take, drop, replicate, sym, refl, ap, ◌∙◌, ⊎_elim, arith}
use Rattle.std.specs.List.{prefix_len, position, list_all, AllByRecursion as All}
use Rattle.std.proofs.lemmas.List.{append_assoc, append-nil, take_rest}
use Rattle.std.proofs.lemmas.Bool.{cond-true, cond-false, eqb-true, eqb-false, ne_eqb, cases_lt, lt-ltb, le-ltb}
use Rattle.std.proofs.lemmas.Bool.Decides.{nat_tests}
use Rattle.parameter_text.specs.Cuts.{onto, split, spliced, empty, all_empty}

-- no byte of a part is the one that parts are cut at
abbrev pub Apart : ℕ → List ℕ → Type 0
Apart b xs = All (λ x. x ≡ b → ⊥) xs

module _ (b : ℕ) where
  pub split_cut : (c t : List ℕ) → Apart b c → split b (c ++ b ∷ t) ≡ c ∷ split b t
  split_cut [] t h = cond-true (eqb b b) _ _ (grind (arith, nat_tests))
  split_cut (x ∷ c) t h = cond-false (eqb x b) _ _ (ne_eqb x b h.0) ∙ ap (onto x) (split_cut c t h.1)

  pub split_last : (c : List ℕ) → Apart b c → split b c ≡ c ∷ []
  split_last [] h = refl
  split_last (x ∷ c) h = cond-false (eqb x b) _ _ (ne_eqb x b h.0) ∙ ap (onto x) (split_last c h.1)

  split_repeated : (k : ℕ) → split b (replicate k b) ≡ [] ∷ replicate k []
  split_repeated zero = refl
  split_repeated (suc k) = cond-true (eqb b b) _ _ (grind (arith, nat_tests)) ∙ ap (λ (l : List (List ℕ)). [] ∷ l) (split_repeated k)

  -- parts put together, and empty parts after them
  pub split_spliced : (c : List ℕ) (cs : List (List ℕ)) (k : ℕ) → All (Apart b) (c ∷ cs) → split b (spliced b (c ∷ cs) ++ replicate k b) ≡ (c ∷ cs) ++ replicate k []
  split_spliced c [] zero h = ap (split b) (append-nil c) ∙ split_last c h.0
  split_spliced c [] (suc k) h = split_cut c (replicate k b) h.0 ∙ ap (λ (l : List (List ℕ)). c ∷ l) (split_repeated k)
  split_spliced c (d ∷ cs) k h =
      ap (split b) (append_assoc c (b ∷ spliced b (d ∷ cs)) (replicate k b))
      ∙ split_cut c (spliced b (d ∷ cs) ++ replicate k b) h.0
      ∙ ap (λ (l : List (List ℕ)). c ∷ l) (split_spliced d cs k h.1)

  onto_spliced : (x : ℕ) (l : List ℕ) (ls : List (List ℕ)) → spliced b (onto x (l ∷ ls)) ≡ x ∷ spliced b (l ∷ ls)
  onto_spliced x l [] = refl
  onto_spliced x l (m ∷ ls) = refl

  pub split_some : (xs : List ℕ) → (l : List ℕ) × (ls : List (List ℕ)) × (split b xs ≡ l ∷ ls)
  split_some [] = ([], [], refl)
  split_some (x ∷ xs) =
      elim (eqb x b) as (λ t. (l : List ℕ) × (ls : List (List ℕ)) × (cond t ([] ∷ split b xs) (onto x (split b xs)) ≡ l ∷ ls)) [
        | true ↦ ([], split b xs, refl)
        | false ↦ let s = split_some xs in (x ∷ s.0, s.1, ap (onto x) s.2)
      ]

  -- the parts of a list give it back
  pub spliced_split : (xs : List ℕ) → xs ≡ spliced b (split b xs)
  spliced_split [] = refl
  spliced_split (x ∷ xs) =
      let s = split_some xs in
      elim (eqb x b) as (λ t. eqb x b ≡ t → (x ∷ xs) ≡ spliced b (cond t ([] ∷ split b xs) (onto x (split b xs)))) [
        | true ↦ λ e. rw (eqb-true x b e) (ap (λ (l : List ℕ). b ∷ l) (spliced_split xs) ∙ rw s.2 refl)
        | false ↦ λ _. ap (λ (l : List ℕ). x ∷ l) (spliced_split xs) ∙ rw s.2 (sym (onto_spliced x s.0 s.1))
      ]
      refl

  onto_apart : (x : ℕ) (ls : List (List ℕ)) → (x ≡ b → ⊥) → All (Apart b) ls → All (Apart b) (onto x ls)
  onto_apart x [] n h = ((n, tt), tt)
  onto_apart x (l ∷ ls) n h = ((n, h.0), h.1)

  -- no part has the byte that it was cut at
  pub split_apart : (xs : List ℕ) → All (Apart b) (split b xs)
  split_apart [] = (tt, tt)
  split_apart (x ∷ xs) =
      elim (eqb x b) as (λ t. eqb x b ≡ t → All (Apart b) (cond t ([] ∷ split b xs) (onto x (split b xs)))) [
        | true ↦ λ _. (tt, split_apart xs)
        | false ↦ λ e. onto_apart x (split b xs) (eqb-false x b e) (split_apart xs)
      ]
      refl

  repeated_of_none : (k : ℕ) → spliced b ([] ∷ replicate k []) ≡ replicate k b
  repeated_of_none zero = refl
  repeated_of_none (suc k) = ap (λ (l : List ℕ). b ∷ l) (repeated_of_none k)

  pub spliced_empties : (c : List ℕ) (cs : List (List ℕ)) (k : ℕ) → spliced b ((c ∷ cs) ++ replicate k []) ≡ spliced b (c ∷ cs) ++ replicate k b
  spliced_empties c [] zero = sym (append-nil c)
  spliced_empties c [] (suc k) = ap (λ (l : List ℕ). c ++ b ∷ l) (repeated_of_none k)
  spliced_empties c (d ∷ cs) k = ap (λ (l : List ℕ). c ++ b ∷ l) (spliced_empties d cs k) ∙ sym (append_assoc c (b ∷ spliced b (d ∷ cs)) (replicate k b))

pub empties : (cs : List (List ℕ)) → all_empty cs ≡ true → cs ≡ replicate (length cs) []
empties [] h = refl
empties ([] ∷ cs) h = ap (λ (l : List (List ℕ)). [] ∷ l) (empties cs h)
empties ((x ∷ c) ∷ cs) h = absurd (let z : ◌≡◌ {A = ℕ} 0 1 = cc in omega arith)

pub empties_true : (k : ℕ) → all_empty (replicate k []) ≡ true
empties_true zero = refl
empties_true (suc k) = empties_true k

-- the first part, as a loop finds it

abbrev pub before : ℕ → List ℕ → ℕ
before b xs = prefix_len (λ x. not (eqb x b)) xs

pub split_front : (b : ℕ) (xs : List ℕ) → before b xs < length xs → split b xs ≡ take (before b xs) xs ∷ split b (drop (before b xs + 1) xs)
split_front b [] h = absurd (omega arith)
split_front b (x ∷ xs) h =
    elim (eqb x b) as (λ t. cond (not t) (1 + before b xs) 0 < suc (length xs) → cond t ([] ∷ split b xs) (onto x (split b xs)) ≡ take (cond (not t) (1 + before b xs) 0) (x ∷ xs) ∷ split b (drop (cond (not t) (1 + before b xs) 0 + 1) (x ∷ xs))) [
      | true ↦ λ _. refl
      | false ↦ λ k.
          let one : 1 + before b xs ≡ suc (before b xs) = omega arith in
          let two : 1 + before b xs + 1 ≡ suc (before b xs + 1) = omega arith in
          rw (two, one) (ap (onto x) (split_front b xs (omega arith)))
    ]
    h

pub split_whole : (b : ℕ) (xs : List ℕ) → length xs ≤ before b xs → split b xs ≡ xs ∷ []
split_whole b [] h = refl
split_whole b (x ∷ xs) h =
    elim (eqb x b) as (λ t. suc (length xs) ≤ cond (not t) (1 + before b xs) 0 → cond t ([] ∷ split b xs) (onto x (split b xs)) ≡ (x ∷ xs) ∷ []) [
      | true ↦ λ k. absurd (omega arith)
      | false ↦ λ k. ap (onto x) (split_whole b xs (omega arith))
    ]
    h

some_not_none : (n : ℕ) → ◌≡◌ {A = Option ℕ} (Some n) None → ⊥
some_not_none n e = let z : ◌≡◌ {A = ℕ} 0 1 = cc in omega arith

module _ (b : ℕ) (xs : List ℕ) where
  -- as `&s[..n]` and `&s[n + 1..]` read
  pub split_at : (n : ℕ) → n ≡ before b xs → n < length xs → split b xs ≡ take n xs ∷ split b (take (length xs - (n + 1)) (drop (n + 1) xs))
  split_at n e h =
      let k : before b xs < length xs = omega arith in
      rw (take_rest xs (n + 1), e) (split_front b xs k)

  -- where `position` finds the first b
  pub found_at : (n : ℕ) → Some n ≡ position (λ x. eqb x b) xs → (n ≡ before b xs) × (n < length xs)
  found_at n e =
      ⊎_elim
      (λ (h : before b xs < length xs). let same : n ≡ before b xs = (let f = e ∙ cond-true (ltb (before b xs) (length xs)) _ _ (lt-ltb (before b xs) (length xs) h) in cc) in (same, omega arith))
      (λ (h : length xs ≤ before b xs). absurd (some_not_none n (e ∙ cond-false (ltb (before b xs) (length xs)) _ _ (le-ltb (before b xs) (length xs) h))))
      (cases_lt (before b xs) (length xs))

  pub found_nowhere : None ≡ position (λ x. eqb x b) xs → length xs ≤ before b xs
  found_nowhere e =
      ⊎_elim
      (λ (h : before b xs < length xs). absurd (some_not_none (before b xs) (sym (e ∙ cond-true (ltb (before b xs) (length xs)) _ _ (lt-ltb (before b xs) (length xs) h)))))
      (λ (h : length xs ≤ before b xs). h)
      (cases_lt (before b xs) (length xs))

  -- two parts or more are cut at the first b
  pub cut_parts : (line rest : List ℕ) → split b xs ≡ line ∷ split b rest → (before b xs < length xs) × (line ≡ take (before b xs) xs) × (rest ≡ drop (before b xs + 1) xs)
  cut_parts line rest e =
      let some = split_some b rest in
      let h : before b xs < length xs =
      ⊎_elim
      (λ (k : before b xs < length xs). k)
      (λ (k : length xs ≤ before b xs). absurd (omega (arith, ap length (sym (split_whole b xs k) ∙ e ∙ ap (λ (l : List (List ℕ)). line ∷ l) some.2))))
      (cases_lt (before b xs) (length xs)) in
      let two : line ∷ split b rest ≡ take (before b xs) xs ∷ split b (drop (before b xs + 1) xs) = sym e ∙ split_front b xs h in
      let tails : split b rest ≡ split b (drop (before b xs + 1) xs) = cc in
      (h, cc, spliced_split b rest ∙ ap (spliced b) tails ∙ sym (spliced_split b (drop (before b xs + 1) xs)))

  -- one part is cut nowhere
  pub cut_nowhere : (line : List ℕ) → split b xs ≡ line ∷ [] → length xs ≤ before b xs
  cut_nowhere line e =
      ⊎_elim
      (λ (h : before b xs < length xs). let some = split_some b (drop (before b xs + 1) xs) in absurd (omega (arith, ap length (sym e ∙ split_front b xs h ∙ ap (λ (l : List (List ℕ)). take (before b xs) xs ∷ l) some.2))))
      (λ (h : length xs ≤ before b xs). h)
      (cases_lt (before b xs) (length xs))

pub all_empty_all : (cs : List (List ℕ)) → all_empty cs ≡ list_all empty cs
all_empty_all [] = refl
all_empty_all (c ∷ cs) = ap (λ (b : Bool). empty c && b) (all_empty_all cs)

pub empty_length : (c : List ℕ) → eqb (length c) 0 ≡ empty c
empty_length [] = refl
empty_length (x ∷ c) = ne_eqb (length (x ∷ c)) 0 (λ e. omega arith)
