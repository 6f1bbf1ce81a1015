-- Distances of whole numbers, under the operations of the assessment.
use Rattle.std.proofs.Common.{◌≡◌, ℕ, ◌+◌, ◌*◌, ◌<◌, ◌≤◌, Bool, true, false, cond, ◌&&◌, List, [], ◌∷◌, map, ℤ, pos, ◌+ℤ◌, ◌*ℤ◌, neg_ℤ, ◌≤ℤ◌, sym, refl, ap, ◌∙◌, mul-add, arith}
use mathlib.Core.Path.{fun_ext}
use lib.IntN.{zero-*ℤ}
use Rattle.std.specs.Int.{int_max}
use Rattle.std.specs.List.{range_with_len}
use Rattle.std.proofs.lemmas.Int.{ints}
use Rattle.std.proofs.lemmas.List.FromFn.{length-map-range_with_len}
use Rattle.amounts.specs.Sums.{sum_of}
use Rattle.amounts.specs.Tails.{Near, AllNear, tail_sum, sum_at, added}
use Rattle.amounts.specs.Rounding.{round_off}
use Rattle.amounts.specs.Sums.{when, count}
use Rattle.amounts.proofs.Whole.{mul_z_add, mul_z_mono, mul_z_neg, mul_z_assoc, mul_z_swap, mul_z_max, max_left, max_right, max_least, ≤-antisym}
use Rattle.amounts.proofs.Tail.{Reached, reached, bound_at, tail_adds_holds, tail_near_holds}
use Rattle.amounts.proofs.Round.{round_off_near}

pub near_same : (d : ℕ) (x y : ℤ) → x ≡ y → Near d x y
near_same d x y e = record { low = omega (arith, ints); high = omega (arith, ints) }

pub near_more : (e : ℕ) {d : ℕ} {x y : ℤ} → d ≤ e → Near d x y → Near e x y
near_more e l n = record { low = omega (arith, ints, n.low); high = omega (arith, ints, n.high) }

pub near_trans : {d e : ℕ} {x y z : ℤ} → Near d x y → Near e y z → Near (d + e) x z
near_trans m n = record { low = omega (arith, ints, m.low, n.low); high = omega (arith, ints, m.high, n.high) }

pub near_add : {d e : ℕ} {x y u v : ℤ} → Near d x y → Near e u v → Near (d + e) (x +ℤ u) (y +ℤ v)
near_add m n = record { low = omega (arith, ints, m.low, n.low); high = omega (arith, ints, m.high, n.high) }

pub near_neg : {d : ℕ} {x y : ℤ} → Near d x y → Near d (neg_ℤ x) (neg_ℤ y)
near_neg n = record { low = omega (arith, ints, n.high); high = omega (arith, ints, n.low) }

pub near_mul : (c : ℕ) {d : ℕ} {x y : ℤ} → Near d x y → Near (c * d) (pos c *ℤ x) (pos c *ℤ y)
near_mul c {d} {x} {y} n =
    record {
      low = rw (mul_z_add (pos c) y (pos d)) at (mul_z_mono c x (y +ℤ pos d) n.low);
      high = rw (mul_z_add (pos c) x (pos d)) at (mul_z_mono c y (x +ℤ pos d) n.high);
    }

pub near_max : {d : ℕ} {x y u v : ℤ} → Near d x u → Near d y v → Near d (int_max x y) (int_max u v)
near_max {d} {x} {y} {u} {v} m n =
    record {
      low = max_least x y (int_max u v +ℤ pos d) (omega (arith, ints, m.low, max_left u v)) (omega (arith, ints, n.low, max_right u v));
      high = max_least u v (int_max x y +ℤ pos d) (omega (arith, ints, m.high, max_left x y)) (omega (arith, ints, n.high, max_right x y));
    }

pub near_to : {d e : ℕ} {x y u v : ℤ} → d ≡ e → x ≡ u → y ≡ v → Near d x y → Near e u v
near_to p q r n = record { low = omega (arith, ints, p, q, r, n.low); high = omega (arith, ints, p, q, r, n.high) }

-- the tail of scaled totals
pub sum_at_scale : (c : ℕ) (f : ℕ → ℤ) (ms : List Bool) (cs : List ℕ) → sum_at (λ z. z) ms (map (λ i. pos c *ℤ f i) cs) ≡ pos c *ℤ sum_at (λ z. z) ms (map f cs)
sum_at_scale c f [] cs = omega (arith, ints)
sum_at_scale c f (true ∷ ms) [] = omega (arith, ints)
sum_at_scale c f (false ∷ ms) [] = omega (arith, ints)
sum_at_scale c f (true ∷ ms) (i ∷ cs) = omega (arith, ints, sum_at_scale c f ms cs, mul_z_add (pos c) (f i) (sum_at (λ z. z) ms (map f cs)))
sum_at_scale c f (false ∷ ms) (i ∷ cs) = sum_at_scale c f ms cs

pub tail_scale : (c k n : ℕ) (f : ℕ → ℤ) → k ≤ n → tail_sum k (map (λ i. pos c *ℤ f i) (range_with_len 0 n)) ≡ pos c *ℤ tail_sum k (map f (range_with_len 0 n))
tail_scale c k n f l =
    let p = length-map-range_with_len f 0 n in
    let q = length-map-range_with_len (λ i. pos c *ℤ f i) 0 n in
    let a : Reached k (map f (range_with_len 0 n)) = reached k (map f (range_with_len 0 n)) (omega arith) in
    let b : Reached k (map (λ i. pos c *ℤ f i) (range_with_len 0 n)) = reached k (map (λ i. pos c *ℤ f i) (range_with_len 0 n)) (omega arith) in
    ≤-antisym _ _
    (omega (arith, ints, bound_at k (map (λ i. pos c *ℤ f i) (range_with_len 0 n)) a.0 (a.1 ∙ p ∙ sym q) a.2, sum_at_scale c f a.0 (range_with_len 0 n), ap (λ z. pos c *ℤ z) a.3))
    (omega (arith, ints, b.3, sum_at_scale c f b.0 (range_with_len 0 n), mul_z_mono c _ _ (bound_at k (map f (range_with_len 0 n)) b.0 (b.1 ∙ q ∙ sym p) b.2)))

all_near : (d : ℕ) (f g : ℕ → ℤ) (cs : List ℕ) → ((i : ℕ) → Near d (f i) (g i)) → AllNear d (map f cs) (map g cs)
all_near d f g [] n = tt
all_near d f g (c ∷ cs) n = (n c, all_near d f g cs n)

-- a x and b y differ by at most d: a record, so that antt finds all five
pub record Off (d a b : ℕ) (x y : ℤ) : Type 0 where
  pub near : Near d (pos a *ℤ x) (pos b *ℤ y)

pub off_as : {d e a b a' b' : ℕ} {x y : ℤ} → d ≡ e → a ≡ a' → b ≡ b' → Off d a b x y → Off e a' b' x y
off_as {x = x} {y = y} p q r o = record { near = near_to p (ap (λ n. pos n *ℤ x) q) (ap (λ n. pos n *ℤ y) r) o.near }

pub off_more : (e : ℕ) {d a b : ℕ} {x y : ℤ} → d ≤ e → Off d a b x y → Off e a b x y
off_more e l o = record { near = near_more e l o.near }

pub off_trans : {d e a b c : ℕ} {x y z : ℤ} → Off d a b x y → Off e b c y z → Off (d + e) a c x z
off_trans m n = record { near = near_trans m.near n.near }

pub off_add : {d e a b : ℕ} {x y u v : ℤ} → Off d a b x y → Off e a b u v → Off (d + e) a b (x +ℤ u) (y +ℤ v)
off_add {a = a} {b = b} {x = x} {y = y} {u = u} {v = v} m n =
    record { near = near_to refl (sym (mul_z_add (pos a) x u)) (sym (mul_z_add (pos b) y v)) (near_add m.near n.near) }

pub off_neg : {d a b : ℕ} {x y : ℤ} → Off d a b x y → Off d a b (neg_ℤ x) (neg_ℤ y)
off_neg {a = a} {b = b} {x = x} {y = y} o = record { near = near_to refl (sym (mul_z_neg (pos a) x)) (sym (mul_z_neg (pos b) y)) (near_neg o.near) }

pub off_max : {d a b : ℕ} {x y u v : ℤ} → Off d a b x u → Off d a b y v → Off d a b (int_max x y) (int_max u v)
off_max {a = a} {b = b} {x = x} {y = y} {u = u} {v = v} m n = record { near = near_to refl (sym (mul_z_max a x y)) (sym (mul_z_max b u v)) (near_max m.near n.near) }

-- a factor at both numbers, at both multipliers, or moved from one to the other
pub off_mul : (c : ℕ) {d a b : ℕ} {x y : ℤ} → Off d a b x y → Off (c * d) a b (pos c *ℤ x) (pos c *ℤ y)
off_mul c {a = a} {b = b} {x = x} {y = y} o = record { near = near_to refl (mul_z_swap c a x) (mul_z_swap c b y) (near_mul c o.near) }

pub off_scale : (c : ℕ) {d a b : ℕ} {x y : ℤ} → Off d a b x y → Off (c * d) (c * a) (c * b) x y
off_scale c {a = a} {b = b} {x = x} {y = y} o = record { near = near_to refl (sym (mul_z_assoc c a x)) (sym (mul_z_assoc c b y)) (near_mul c o.near) }

pub off_into : (c : ℕ) {d a b : ℕ} {x y : ℤ} → Off d a (b * c) x y → Off d a b x (pos c *ℤ y)
off_into c {b = b} {y = y} o = record { near = near_to refl refl (mul_z_assoc b c y) o.near }

pub off_out : (c : ℕ) {d a b : ℕ} {x y : ℤ} → Off d a b (pos c *ℤ x) y → Off d (a * c) b x y
off_out c {a = a} {x = x} o = record { near = near_to refl (sym (mul_z_assoc a c x)) refl o.near }

pub off_same : {d a b : ℕ} (x y : ℤ) → pos a *ℤ x ≡ pos b *ℤ y → Off d a b x y
off_same x y e = record { near = near_same _ _ _ e }

-- a sum in which each element that passes p is off by at most u
pub off_sum : {X : Type 0} (u : ℕ) {a b : ℕ} (p : X → Bool) {f g : X → ℤ} (xs : List X) → ((x : X) → Off (u * cond (p x) 1 0) a b (f x) (g x)) → Off (u * count p xs) a b (sum_of f xs) (sum_of g xs)
off_sum u {a} {b} p [] o = off_same (pos 0) (pos 0) (omega (arith, ints))
off_sum u {a} {b} p {f} {g} (x ∷ xs) o = off_as (sym (mul-add u (cond (p x) 1 0) (count p xs))) refl refl (off_add (o x) (off_sum u p xs o))

pub off_when : (u : ℕ) {a b : ℕ} (t h : Bool) {x y : ℤ} → Off (u * cond h 1 0) a b x y → Off (u * cond (t && h) 1 0) a b (when t x) (when t y)
off_when u true h o = o
off_when u {a} {b} false h o = off_same (pos 0) (pos 0) (omega (arith, ints))

pub off_tail : (k n : ℕ) {d a b : ℕ} {f g : ℕ → ℤ} → k ≤ n → ((i : ℕ) → Off d a b (f i) (g i)) → Off (k * d) a b (tail_sum k (map f (range_with_len 0 n))) (tail_sum k (map g (range_with_len 0 n)))
off_tail k n {d} {a} {b} {f} {g} l o =
    record {
      near =
          near_to refl (tail_scale a k n f l) (tail_scale b k n g l)
          (tail_near_holds k d (map (λ i. pos a *ℤ f i) (range_with_len 0 n)) (map (λ i. pos b *ℤ g i) (range_with_len 0 n)) (all_near d (λ i. pos a *ℤ f i) (λ i. pos b *ℤ g i) (range_with_len 0 n) (λ i. (o i).near)) (omega (arith, length-map-range_with_len (λ i. pos a *ℤ f i) 0 n)));
    }

-- a figure rounded off, in halves of its unit
pub rounded : (d : ℕ) (z : ℤ) → 0 < d → Off d (2 * d) 2 (round_off d z) z
rounded d z h = record { near = round_off_near d z h }

pub off_is : {d a b : ℕ} {x y z : ℤ} → y ≡ z → Off d a b x y → Off d a b x z
off_is {b = b} e o = record { near = near_to refl refl (ap (λ w. pos b *ℤ w) e) o.near }

-- halves of a unit are units
pub half : (d c : ℕ) (x y : ℤ) → Off (2 * d) (2 * c) 2 x y → Near d (pos c *ℤ x) y
half d c x y o = record { low = omega (arith, ints, mul_z_assoc 2 c x, o.near.low); high = omega (arith, ints, mul_z_assoc 2 c x, o.near.high) }

-- totals of 0 have a tail of 0
pub tail_zero : (k n : ℕ) (f : ℕ → ℤ) → k ≤ n → ((i : ℕ) → f i ≡ pos 0) → tail_sum k (map f (range_with_len 0 n)) ≡ pos 0
tail_zero k n f l e =
    ap (λ g. tail_sum k (map g (range_with_len 0 n))) (fun_ext (λ i. e i ∙ sym (zero-*ℤ (f i)))) ∙ tail_scale 0 k n f l ∙ zero-*ℤ (tail_sum k (map f (range_with_len 0 n)))

-- x is at most y and z together: a record, so that antt finds the three numbers
pub record Under (x y z : ℤ) : Type 0 where
  pub le : x ≤ℤ (y +ℤ z)

-- x is at least y and z together
pub record Over (x y z : ℤ) : Type 0 where
  pub ge : (y +ℤ z) ≤ℤ x

pub when_under : (b : Bool) {x y z : ℤ} → Under x y z → Under (when b x) (when b y) (when b z)
when_under true u = u
when_under false u = record { le = omega (arith, ints) }

pub when_over : (b : Bool) {x y z : ℤ} → Over x y z → Over (when b x) (when b y) (when b z)
when_over true u = u
when_over false u = record { ge = omega (arith, ints) }

pub sum_under : {X : Type 0} {f g h : X → ℤ} (xs : List X) → ((x : X) → Under (h x) (f x) (g x)) → Under (sum_of h xs) (sum_of f xs) (sum_of g xs)
sum_under [] p = record { le = omega (arith, ints) }
sum_under {X} {f} {g} {h} (x ∷ xs) p = let i = sum_under {f = f} {g = g} {h = h} xs p in record { le = omega (arith, ints, (p x).le, i.le) }

pub sum_over : {X : Type 0} {f g h : X → ℤ} (xs : List X) → ((x : X) → Over (h x) (f x) (g x)) → Over (sum_of h xs) (sum_of f xs) (sum_of g xs)
sum_over [] p = record { ge = omega (arith, ints) }
sum_over {X} {f} {g} {h} (x ∷ xs) p = let i = sum_over {f = f} {g = g} {h = h} xs p in record { ge = omega (arith, ints, (p x).ge, i.ge) }

pub mul_under : (c : ℕ) {x y z : ℤ} → Under x y z → Under (pos c *ℤ x) (pos c *ℤ y) (pos c *ℤ z)
mul_under c {x} {y} {z} u = record { le = rw (mul_z_add (pos c) y z) at (mul_z_mono c x (y +ℤ z) u.le) }

pub mul_over : (c : ℕ) {x y z : ℤ} → Over x y z → Over (pos c *ℤ x) (pos c *ℤ y) (pos c *ℤ z)
mul_over c {x} {y} {z} u = record { ge = rw (mul_z_add (pos c) y z) at (mul_z_mono c (y +ℤ z) x u.ge) }

pub max_under : {x y u v w z : ℤ} → Under x u w → Under y v z → Under (int_max x y) (int_max u v) (int_max w z)
max_under {x} {y} {u} {v} {w} {z} h k =
    record { le = max_least x y (int_max u v +ℤ int_max w z) (omega (arith, ints, h.le, max_left u v, max_left w z)) (omega (arith, ints, k.le, max_right u v, max_right w z)) }

pub add_under : {x y u v w z : ℤ} → Under x u w → Under y v z → Under (x +ℤ y) (u +ℤ v) (w +ℤ z)
add_under h k = record { le = omega (arith, ints, h.le, k.le) }

pub add_over : {x y u v w z : ℤ} → Over x u w → Over y v z → Over (x +ℤ y) (u +ℤ v) (w +ℤ z)
add_over h k = record { ge = omega (arith, ints, h.ge, k.ge) }

pub neg_under : {x y z : ℤ} → Over x y z → Under (neg_ℤ x) (neg_ℤ y) (neg_ℤ z)
neg_under u = record { le = omega (arith, ints, u.ge) }

pub added_map : (f g h : ℕ → ℤ) (cs : List ℕ) → ((i : ℕ) → h i ≡ f i +ℤ g i) → added (map f cs) (map g cs) ≡ map h cs
added_map f g h [] e = refl
added_map f g h (c ∷ cs) e = cc (e c, added_map f g h cs e)

-- the tail of totals that add
pub tail_map : (k n : ℕ) (f g h : ℕ → ℤ) → k ≤ n → ((i : ℕ) → h i ≡ f i +ℤ g i) → Over (tail_sum k (map h (range_with_len 0 n))) (tail_sum k (map f (range_with_len 0 n))) (tail_sum k (map g (range_with_len 0 n)))
tail_map k n f g h l e =
    let p = length-map-range_with_len f 0 n in
    let q = length-map-range_with_len g 0 n in
    record { ge = rw (added_map f g h (range_with_len 0 n) e) at (tail_adds_holds k (map f (range_with_len 0 n)) (map g (range_with_len 0 n)) (p ∙ sym q) (omega arith)) }

pub pos_under : (c m n k : ℕ) → k ≡ m + n → Under (pos (c * k)) (pos (c * m)) (pos (c * n))
pos_under c m n k e = record { le = omega (arith, ints, ap (λ j. c * j) e, mul-add c m n) }
