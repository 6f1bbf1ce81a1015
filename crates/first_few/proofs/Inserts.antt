-- What an insertion in order is. Assumes nothing.
use Rattle.std.proofs.Common.{◌≡◌, ℕ, zero, suc, ◌+◌, ◌-◌, ◌<◌, ◌≤◌, min, Bool, true, false, cond, not, List, [], ◌∷◌, ◌++◌, length, get_or, take, drop, set, Option, Some, None, IfSome, MatchOption, sym, refl, ap, ◌∙◌, subst, ⊎_elim, arith}
use lib.Seq.{take-append-add}
use Rattle.std.specs.List.{between, prefix_len, AllByRecursion as All}
use Rattle.std.specs.Cmp.{IsStrictWeakOrder}
use Rattle.std.proofs.lemmas.List.{take_more, append_assoc, set_at, length-take-le, take-take, take_all, take_at, drop_at, length-append}
use Rattle.std.proofs.lemmas.List.Edits.{length-between}
use Rattle.std.proofs.ByRecursion.{All-get_or, All-take}
use Rattle.std.proofs.lemmas.Slice.{between_is}
use Rattle.std.proofs.lemmas.List.Sums.{prefix_len-le-length}
use Rattle.std.proofs.lemmas.Bool.{cases_Bool, both_ways, cases_lt}
use Rattle.first_few.specs.Order.{InOrder}
use Rattle.amounts.specs.Tails.{insert_by}
use Rattle.amounts.specs.FirstFew.{keep, Strict}
use Rattle.first_few.proofs.Shifts.{moved}

-- a strict order ranks
pub ranks : {X : Type 0} {before : X → X → Bool} → Strict before → IsStrictWeakOrder before
ranks {X} {before} o = record {
  one_way = o.asym;
  chain = λ x y z h k.
      ⊎_elim
      (λ t. ⊎_elim (λ u. absurd (both_ways (before y z) k (o.trans y x z u t))) (λ u. subst (λ w. before w z ≡ false) (sym (o.one x y h u)) k) (cases_Bool (before y x)))
      (λ f. f)
      (cases_Bool (before x z));
}

module _ {X : Type 0} {before : X → X → Bool} (o : IsStrictWeakOrder before) where
  same : (x : X) → before x x ≡ false
  same x = ⊎_elim (λ t. o.one_way x x t) (λ f. f) (cases_Bool (before x x))

  first_least : (y : X) (ys : List X) (i : ℕ) (d : X) → InOrder before (y ∷ ys) → i < suc (length ys) → before (get_or (y ∷ ys) i d) y ≡ false
  first_least y ys zero d s h = same y
  first_least y ys (suc i) d s h = All-get_or (λ z. before z y ≡ false) ys i d (omega arith) s.0

  down : (x y : X) (ys : List X) (i : ℕ) → before x (get_or (y ∷ ys) i x) ≡ false → 0 < i → before x (get_or ys (i - 1) x) ≡ false
  down x y ys zero h p = absurd (omega arith)
  down x y ys (suc j) h p = let n : suc j - 1 ≡ j = omega arith in rw n h

  -- how many stay ahead of x
  abbrev pub rank : X → List X → ℕ
  rank x ys = prefix_len (λ y. not (before x y)) ys

  rank_is : (x : X) (xs : List X) (i : ℕ) → InOrder before xs → i ≤ length xs → ((k : ℕ) → i ≤ k → k < length xs → before x (get_or xs k x) ≡ true) → (0 < i → before x (get_or xs (i - 1) x) ≡ false) → i ≡ rank x xs
  rank_is x [] i s h a l = omega arith
  rank_is x (y ∷ ys) zero s h a l = let all : before x y ≡ true = a 0 (omega arith) (omega arith) in rw all refl
  rank_is x (y ∷ ys) (suc i) s h a l =
      let n : suc i - 1 ≡ i = omega arith in
      let here : before x (get_or (y ∷ ys) i x) ≡ false = rw n at (l (omega arith)) in
      let no : before x y ≡ false = o.chain x (get_or (y ∷ ys) i x) y here (first_least y ys i x s (omega arith)) in
      let more : i ≡ rank x ys = rank_is x ys i s.1 (omega arith) (λ k q j. a (suc k) (omega arith) (omega arith)) (down x y ys i here) in
      rw no (omega arith)

  -- the place behind the last that stays ahead of x, or else the first place
  pub placed : (x : X) (xs : List X) (r : Option ℕ) (n : ℕ) → InOrder before xs → IfSome r (λ i. i < length xs) → IfSome r (λ i. before x (get_or xs i x) ≡ false) → IfSome r (λ i. (k : ℕ) → i < k → k < length xs → before x (get_or xs k x) ≡ true) → (r ≡ None → (k : ℕ) → k < length xs → before x (get_or xs k x) ≡ true) → MatchOption r (n ≡ 0) (λ i. n ≡ i + 1) → n ≡ rank x xs
  placed x xs None n s inside ahead behind all e = rank_is x xs n s (omega arith) (λ k q j. all refl k j) (λ some. absurd (omega arith))
  placed x xs (Some i) n s inside ahead behind all e =
      let last : n - 1 ≡ i = omega arith in
      rank_is x xs n s (omega arith) (λ k q j. behind k (omega arith) j) (λ some. rw last ahead)

  pub insertion_is : (x : X) (ys : List X) → insert_by before x ys ≡ take (rank x ys) ys ++ x ∷ drop (rank x ys) ys
  insertion_is x [] = refl
  insertion_is x (y ∷ ys) =
      elim (before x y) as (λ t. cond t (x ∷ y ∷ ys) (y ∷ insert_by before x ys) ≡ take (cond (not t) (1 + rank x ys) 0) (y ∷ ys) ++ x ∷ drop (cond (not t) (1 + rank x ys) 0) (y ∷ ys)) [
        | true ↦ refl
        | false ↦ let one : 1 + rank x ys ≡ suc (rank x ys) = omega arith in rw one (ap (λ l. y ∷ l) (insertion_is x ys))
      ]

  all_insertion : (P : X → Type 0) (x : X) (ys : List X) → P x → All P ys → All P (insert_by before x ys)
  all_insertion P x [] p a = (p, tt)
  all_insertion P x (y ∷ ys) p a =
      elim (before x y) as (λ t. All P (cond t (x ∷ y ∷ ys) (y ∷ insert_by before x ys))) [ true ↦ (p, a) | false ↦ (a.0, all_insertion P x ys p a.1) ]

  behind : (x y : X) (zs : List X) → before x y ≡ true → All (λ z. before z y ≡ false) zs → All (λ z. before z x ≡ false) zs
  behind x y [] h a = tt
  behind x y (z ∷ zs) h a = (o.chain z y x a.0 (o.one_way x y h), behind x y zs h a.1)

  pub in_order_insertion : (x : X) (ys : List X) → InOrder before ys → InOrder before (insert_by before x ys)
  in_order_insertion x [] s = (tt, tt)
  in_order_insertion x (y ∷ ys) s =
      ⊎_elim
      (λ t. subst (InOrder before) (sym (ap (λ b. cond b (x ∷ y ∷ ys) (y ∷ insert_by before x ys)) t)) ((o.one_way x y t, behind x y ys t s.0), s))
      (λ f. subst (InOrder before) (sym (ap (λ b. cond b (x ∷ y ∷ ys) (y ∷ insert_by before x ys)) f)) (all_insertion (λ z. before z y ≡ false) x ys f s.0, in_order_insertion x ys s.1))
      (cases_Bool (before x y))

  pub in_order_take : (n : ℕ) (ys : List X) → InOrder before ys → InOrder before (take n ys)
  in_order_take zero ys s = tt
  in_order_take (suc n) [] s = tt
  in_order_take (suc n) (y ∷ ys) s = (All-take (λ z. before z y ≡ false) n ys s.0, in_order_take n ys s.1)

  pub in_order_keep : (n : ℕ) (x : X) (ys : List X) → InOrder before ys → InOrder before (keep before n ys x)
  in_order_keep n x ys s = in_order_take n (insert_by before x ys) (in_order_insertion x ys s)

  module _ (x : X) (old : List X) (len at end : ℕ) (h : len ≤ length old) (s : at ≡ rank x (take len old)) where
    front : at ≤ len
    front = let l = prefix_len-le-length (λ y. not (before x y)) (take len old) in omega (arith, length-take-le len old h)

    -- those that are kept
    abbrev pub kept : List X
    kept = take at old ++ x ∷ between at end old

    keep_split : keep before (length old) (take len old) x ≡ take (length old) (take at old ++ x ∷ between at len old)
    keep_split =
        let k = front in
        let e : insert_by before x (take len old) ≡ take at (take len old) ++ x ∷ drop at (take len old) = rw s (insertion_is x (take len old)) in
        ap (take (length old)) (e ∙ (λ i. take-take at len old k i ++ x ∷ sym (between_is old at len) i))

    module _ (lt : at < length old) (e : end ≡ min (length old - 1) len) where
      part : take (length old - at - 1) (between at len old) ≡ between at end old
      part =
          ⊎_elim
          (λ q. let same : end ≡ len = omega arith in rw same (take_all (length old - at - 1) (between at len old) (omega (arith, length-between old at len h))))
          (λ q. let same : length old - at - 1 ≡ end - at = omega arith in rw same (take-take (end - at) (len - at) (drop at old) (omega arith)))
          (cases_lt len (length old))

      pub keep_is : keep before (length old) (take len old) x ≡ kept
      keep_is =
          let p : length (take at old) ≡ at = length-take-le at old (omega arith) in
          let n : length old ≡ length (take at old) + suc (length old - at - 1) = omega arith in
          keep_split ∙ ap (λ k. take k (take at old ++ x ∷ between at len old)) n ∙ take-append-add (take at old) (x ∷ between at len old) (suc (length old - at - 1))
          ∙ ap (λ l. take at old ++ x ∷ l) part

      long : length kept ≡ end + 1
      long =
          let k = front in
          omega (arith, length-append (take at old) (x ∷ between at end old), length-take-le at old (omega arith), length-between old at end (omega arith))

      pub written : set (moved old at end) at x ≡ kept ++ drop (end + 1) old
      written =
          let p : length (take at old) ≡ at = length-take-le at old (omega arith) in
          let rest : List X = between at end old ++ drop (end + 1) old in
          let cut : moved old at end ≡ take at old ++ (get_or old at x ∷ rest) = ap (λ l. l ++ rest) (take_more old at x lt) ∙ append_assoc (take at old) (get_or old at x ∷ []) rest in
          ap (λ l. set l at x) cut ∙ set_at (take at old) (get_or old at x) rest x at p ∙ sym (append_assoc (take at old) (x ∷ between at end old) (drop (end + 1) old))

      pub take_written : take (end + 1) (set (moved old at end) at x) ≡ kept
      take_written = ap (take (end + 1)) written ∙ take_at kept (drop (end + 1) old) (end + 1) long

      pub drop_written : drop (end + 1) (set (moved old at end) at x) ≡ drop (end + 1) old
      drop_written = ap (drop (end + 1)) written ∙ drop_at kept (drop (end + 1) old) (end + 1) long

    -- no place is left for x
    pub keep_none : length old ≤ at → take len old ≡ keep before (length old) (take len old) x
    keep_none q =
        let k = front in
        let same : at ≡ length old = omega arith in
        let all : len ≡ length old = omega arith in
        sym (keep_split ∙ take_at (take at old) (x ∷ between at len old) (length old) (length-take-le at old (omega arith) ∙ same) ∙ ap (λ n. take n old) (same ∙ sym all))
