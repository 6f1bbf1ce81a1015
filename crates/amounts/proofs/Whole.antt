-- Products and sums of whole numbers.
use Rattle.std.proofs.Common.{◌≡◌, ℕ, suc, ◌+◌, ◌*◌, Bool, true, false, cond, not, ◌&&◌, List, [], ◌∷◌, ◌++◌, ℤ, pos, negsuc, ◌+ℤ◌, ◌*ℤ◌, neg_ℤ, ◌≤ℤ◌, sym, refl, ap, ◌∙◌, mul_assoc, mul_comm, mul-le-mul_left, mul-add, arith}
use lib.IntN.{*ℤ_comm, zero-*ℤ}
use lib.Signed.{lt_z}
use borrow.Author.Differences.{up, down, sum_is_lem, neg_is}
use Rattle.std.specs.Int.{int_max}
use Rattle.std.proofs.lemmas.Int.{ints, clamps}
use Rattle.amounts.specs.Sums.{sum_of, when, count}

-- equal differences, times a factor
scaled_parts : (k u a b d e f : ℕ) → u + a + b ≡ d + e + f → k * u + k * a + k * b ≡ k * d + k * e + k * f
scaled_parts k u a b d e f h = omega (arith, simp mul-add at (ap (λ n. k * n) h))

pub mul_z_add : (a b c : ℤ) → a *ℤ (b +ℤ c) ≡ a *ℤ b +ℤ a *ℤ c
mul_z_add a b c =
    omega (arith, ints, scaled_parts (up a) (up (b +ℤ c)) (down b) (down c) (down (b +ℤ c)) (up b) (up c) (sum_is_lem b c), scaled_parts (down a) (up (b +ℤ c)) (down b) (down c) (down (b +ℤ c)) (up b) (up c) (sum_is_lem b c))

pub add_z_mul : (a b c : ℤ) → (a +ℤ b) *ℤ c ≡ a *ℤ c +ℤ b *ℤ c
add_z_mul a b c = *ℤ_comm (a +ℤ b) c ∙ mul_z_add c a b ∙ omega (arith, ints, *ℤ_comm c a, *ℤ_comm c b)

pub mul_z_neg : (a b : ℤ) → a *ℤ neg_ℤ b ≡ neg_ℤ (a *ℤ b)
mul_z_neg a b =
    omega (arith, ints, ap (λ n. up a * n) (neg_is b).0, ap (λ n. up a * n) (neg_is b).1, ap (λ n. down a * n) (neg_is b).0, ap (λ n. down a * n) (neg_is b).1)

pub mul_z_mono : (p : ℕ) (a b : ℤ) → a ≤ℤ b → (pos p *ℤ a) ≤ℤ (pos p *ℤ b)
mul_z_mono p a b h = omega (arith, ints, simp mul-add at (mul-le-mul_left {m = up a + down b} {n = up b + down a} p (omega (arith, ints))))

pub max_left : (a b : ℤ) → a ≤ℤ int_max a b
max_left a b = omega (arith, ints, clamps)

pub max_right : (a b : ℤ) → b ≤ℤ int_max a b
max_right a b = omega (arith, ints, clamps)

pub max_least : (a b c : ℤ) → a ≤ℤ c → b ≤ℤ c → int_max a b ≤ℤ c
max_least a b c h k = omega (arith, ints, clamps)

pub sum_of_le : {X : Type 0} (f g : X → ℤ) (xs : List X) → ((x : X) → f x ≤ℤ g x) → sum_of f xs ≤ℤ sum_of g xs
sum_of_le f g [] h = omega (arith, ints)
sum_of_le f g (x ∷ xs) h = omega (arith, ints, h x, sum_of_le f g xs h)

pub sum_of_same : {X : Type 0} (f g : X → ℤ) (xs : List X) → ((x : X) → f x ≡ g x) → sum_of f xs ≡ sum_of g xs
sum_of_same f g [] h = refl
sum_of_same f g (x ∷ xs) h = omega (arith, ints, h x, sum_of_same f g xs h)

pub sum_of_add : {X : Type 0} (f g : X → ℤ) (xs : List X) → sum_of (λ x. f x +ℤ g x) xs ≡ sum_of f xs +ℤ sum_of g xs
sum_of_add f g [] = refl
sum_of_add f g (x ∷ xs) = omega (arith, ints, sum_of_add f g xs)

pub sum_of_mul : {X : Type 0} (c : ℤ) (f : X → ℤ) (xs : List X) → sum_of (λ x. c *ℤ f x) xs ≡ c *ℤ sum_of f xs
sum_of_mul c f [] = omega (arith, ints)
sum_of_mul c f (x ∷ xs) = omega (arith, ints, mul_z_add c (f x) (sum_of f xs), sum_of_mul c f xs)

pub sum_of_append : {X : Type 0} (f : X → ℤ) (xs ys : List X) → sum_of f (xs ++ ys) ≡ sum_of f xs +ℤ sum_of f ys
sum_of_append f [] ys = omega (arith, ints)
sum_of_append f (x ∷ xs) ys = omega (arith, ints, sum_of_append f xs ys)

pub mul_z_assoc : (a b : ℕ) (x : ℤ) → pos (a * b) *ℤ x ≡ pos a *ℤ (pos b *ℤ x)
mul_z_assoc a b (pos n) = ap pos (mul_assoc a b n)
mul_z_assoc a b (negsuc n) = ap (λ m. neg_ℤ (pos m)) (mul_assoc a b (suc n)) ∙ sym (mul_z_neg (pos a) (pos (b * suc n)))

pub mul_z_swap : (a b : ℕ) (x : ℤ) → pos a *ℤ (pos b *ℤ x) ≡ pos b *ℤ (pos a *ℤ x)
mul_z_swap a b x = sym (mul_z_assoc a b x) ∙ ap (λ n. pos n *ℤ x) (mul_comm a b) ∙ mul_z_assoc b a x

-- a factor goes into the greater
pub mul_z_max : (c : ℕ) (x y : ℤ) → pos c *ℤ int_max x y ≡ int_max (pos c *ℤ x) (pos c *ℤ y)
mul_z_max c x y = go (lt_z y x) refl
  where
    go : (t : Bool) → lt_z y x ≡ t → pos c *ℤ cond t x y ≡ int_max (pos c *ℤ x) (pos c *ℤ y)
    go true e = omega (arith, ints, clamps, mul_z_mono c y x (omega (arith, ints)))
    go false e = omega (arith, ints, clamps, mul_z_mono c x y (omega (arith, ints)))

pub ≤-antisym : (x y : ℤ) → x ≤ℤ y → y ≤ℤ x → x ≡ y
≤-antisym x y h k = omega (arith, ints)

pub neg_mul_z : (x z : ℤ) → neg_ℤ x *ℤ z ≡ neg_ℤ (x *ℤ z)
neg_mul_z x z = *ℤ_comm (neg_ℤ x) z ∙ mul_z_neg z x ∙ ap neg_ℤ (*ℤ_comm z x)

-- a factor of the first factor goes in front of the product
pub front : (c : ℕ) (m z : ℤ) → (pos c *ℤ m) *ℤ z ≡ pos c *ℤ (m *ℤ z)
front c (pos n) z = mul_z_assoc c n z
front c (negsuc n) z =
    neg_mul_z (pos (c * suc n)) z ∙ ap neg_ℤ (mul_z_assoc c (suc n) z) ∙ sym (mul_z_neg (pos c) (pos (suc n) *ℤ z)) ∙ ap (λ w. pos c *ℤ w) (sym (neg_mul_z (pos (suc n)) z))

pub zero_product : (m c : ℤ) → m ≡ pos 0 → m *ℤ c ≡ pos 0
zero_product m c e = ap (λ z. z *ℤ c) e ∙ zero-*ℤ c

-- an amount of 0 counts as 0
pub when_zero : (b : Bool) (z : ℤ) → z ≡ pos 0 → when b z ≡ pos 0
when_zero true z e = e
when_zero false z e = refl

-- a product that counts grows with its first factor
pub when_mul : (b : Bool) (x y z c : ℤ) → x ≡ y +ℤ z → when b (x *ℤ c) ≡ when b (y *ℤ c) +ℤ when b (z *ℤ c)
when_mul true x y z c e = ap (λ w. w *ℤ c) e ∙ add_z_mul y z c
when_mul false x y z c e = refl

pub sum_adds : {X : Type 0} (f g h : X → ℤ) (xs : List X) → ((x : X) → h x ≡ f x +ℤ g x) → sum_of h xs ≡ sum_of f xs +ℤ sum_of g xs
sum_adds f g h xs p = sum_of_same h (λ x. f x +ℤ g x) xs p ∙ sum_of_add f g xs

-- those that pass a test are those of them that pass a second, and those that do not
pub count_split : {X : Type 0} (p q h : X → Bool) (xs : List X) → count (λ x. (p x && not (q x)) && h x) xs + count (λ x. (p x && q x) && h x) xs ≡ count (λ x. p x && h x) xs
count_split p q h [] = refl
count_split p q h (x ∷ xs) = omega (arith, count_split p q h xs, one (p x) (q x) (h x))
  where
    one : (a b c : Bool) → cond ((a && not b) && c) 1 0 + cond ((a && b) && c) 1 0 ≡ cond (a && c) 1 0
    one true true true = refl
    one true true false = refl
    one true false true = refl
    one true false false = refl
    one false b c = refl
