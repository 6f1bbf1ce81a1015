-- The loss, the floor and the greater side. Assumes nothing.
use Rattle.std.proofs.Common.{◌≡◌, ℕ, ◌+◌, ◌*◌, ◌^◌, ◌<◌, ◌≤◌, Bool, true, false, cond, List, ℤ, pos, ◌+ℤ◌, ◌-ℤ◌, ◌*ℤ◌, neg_ℤ, to_z, of_z, unsigned_abs, int_lt, ap, ◌∙◌, arith}
use mir.Syntax.{w128}
use Rattle.std.specs.Int.{int_max}
use Rattle.std.proofs.Math.Nat.{le-mul_of_pos_right}
use Rattle.std.proofs.lemmas.Int.{ints}
use Rattle.amounts.specs.Rounding.{round_off}
use Rattle.return_source.specs.Meaning.{Meaning}
use Rattle.return_source.specs.Lawful.{Lawful}
use Rattle.return_source.specs.declared.terms.Parameters.{Parameters}
use Rattle.return_source.specs.declared.terms.ScenarioSet.TheVariants.{Historical, Stress}
use Rattle.ledger.specs.declared.terms.Settings.{Settings}
use Rattle.margin_rules.specs.Portfolio.{rounded_product, in_portfolio, tails_of, both_tails, weighed, loss_of, floor_of, side_of, portfolio_margin}
use Rattle.margin.proofs.RoundSizes.{round_small, wide}

-- two tail counts are together at most twice their product
counts_product : (a b : ℕ) → 1 ≤ a → 1 ≤ b → a + b ≤ 2 * (a * b)
counts_product a b h k =
    let l : a ≤ a * b = le-mul_of_pos_right {m = b} a (omega (arith, k)) in
    let r : b ≤ b * a = le-mul_of_pos_right {m = a} b (omega (arith, h)) in
    omega (arith, l, r)

-- the loss by parameters
pub weighed_by : (m : Meaning) (p : Parameters) (h t : ℤ) → p ≡ m.parameters → neg_ℤ (pos (p.historical.weight.ten_thousandths * p.stress.tail) *ℤ h +ℤ pos (p.stress.weight.ten_thousandths * p.historical.tail) *ℤ t) ≡ weighed m h t
weighed_by m p h t e = ap (λ q. neg_ℤ (pos (q.historical.weight.ten_thousandths * q.stress.tail) *ℤ h +ℤ pos (q.stress.weight.ten_thousandths * q.historical.tail) *ℤ t)) e

pub both_by : (m : Meaning) → Lawful m → (p : Parameters) → p ≡ m.parameters → (p.historical.tail + p.stress.tail) ≤ 2 * both_tails m
both_by m law p e =
    let a = m.parameters.historical.tail in
    let b = m.parameters.stress.tail in
    let k = counts_product a b law.parameters.historical.tail_some law.parameters.stress.tail_some in
    omega (arith, k, ap (λ q. q.historical.tail) e, ap (λ q. q.stress.tail) e)

pub tails_few : (m : Meaning) → Lawful m → (p : Parameters) → p ≡ m.parameters → (p.historical.tail ≤ 100) × (p.stress.tail ≤ 100)
tails_few m law p e =
    (omega (arith, law.parameters.historical.tail_few, ap (λ q. q.historical.tail) e), omega (arith, law.parameters.stress.tail_few, ap (λ q. q.stress.tail) e))

max_small : (a b : ℤ) (n : ℕ) → unsigned_abs a ≤ n → unsigned_abs b ≤ n → unsigned_abs (int_max a b) ≤ n
max_small a b n h k = go (int_lt b a)
  where
    go : (t : Bool) → unsigned_abs (cond t a b) ≤ n
    go true = h
    go false = k

module _ (m : Meaning) (s : Settings) (us : List ℕ) (mv : ℕ → ℤ) where
  pub margin_is : (h t side : ℤ) → h ≡ tails_of rounded_product m s us Historical mv → t ≡ tails_of rounded_product m s us Stress mv → side ≡ side_of us (in_portfolio m) mv → (l f : ℤ) → l ≡ weighed m h t → f ≡ pos (s.floor_rate * both_tails m) *ℤ side → round_off (10 ^ 4 * both_tails m) (int_max l f) ≡ portfolio_margin m s us mv
  unfolding portfolio_margin loss_of floor_of
  margin_is h t side e g k l f a b =
      let x = a ∙ (λ i. weighed m (e i) (g i)) in
      let y = b ∙ ap (λ z. pos (s.floor_rate * both_tails m) *ℤ z) k in
      (λ i. round_off (10 ^ 4 * both_tails m) (int_max (x i) (y i)))

-- the greater of two wide figures, rounded off over 10^4 times both tail counts, is right and small
pub rounded : (both d : ℕ) (l f x r : ℤ) → d ≡ both → 0 < d → d ≤ 10000 → unsigned_abs l ≤ (10000 * both) * 160000000000000000 → unsigned_abs f ≤ (10000 * both) * 160000000000000000 → x ≡ int_max (to_z w128 (of_z w128 l)) (to_z w128 (of_z w128 f)) → r ≡ round_off (10000 * d) (to_z w128 (of_z w128 x)) → (r ≡ round_off (10 ^ 4 * both) (int_max l f)) × (unsigned_abs r ≤ 160000000000000000)
rounded both d l f x r e h k a b u v = (is, omega (arith, ap unsigned_abs is, round_small (10000 * both) (int_max l f) 160000000000000000 (omega arith) size))
  where
    size : unsigned_abs (int_max l f) ≤ (10000 * both) * 160000000000000000
    size = max_small l f ((10000 * both) * 160000000000000000) a b

    greater : x ≡ int_max l f
    greater = u ∙ (λ i. int_max (wide l (omega arith) i) (wide f (omega arith) i))

    is : r ≡ round_off (10 ^ 4 * both) (int_max l f)
    is =
        v ∙ ap (round_off (10000 * d)) (wide x (omega (arith, ap unsigned_abs greater, size)) ∙ greater) ∙ ap (λ n. round_off (10000 * n) (int_max l f)) e

-- minus a sum, as wide code computes it
pub negated : (h s : ℤ) → unsigned_abs h ≤ 10 ^ 30 → unsigned_abs s ≤ 10 ^ 30 → to_z w128 (of_z w128 (pos 0 -ℤ to_z w128 (of_z w128 (to_z w128 (of_z w128 h) +ℤ to_z w128 (of_z w128 s))))) ≡ neg_ℤ (h +ℤ s)
negated h s a b = omega (arith, ints)

pub negated_small : (h s : ℤ) → unsigned_abs (neg_ℤ (h +ℤ s)) ≤ unsigned_abs h + unsigned_abs s
negated_small h s = omega (arith, ints)
