-- The orders of what is kept are strict, and totals go by their order.
use Rattle.std.proofs.Common.{◌≡◌, ℕ, ◌≤◌, true, false, List, map, length, ◌≤ℤ◌, refl, arith}
use Rattle.std.proofs.lemmas.Int.{ints}
use Rattle.std.proofs.lemmas.Bool.Decides.{nat_tests}
use Rattle.amounts.specs.Sums.{sum_of}
use Rattle.amounts.specs.Tails.{tail_sum}
use Rattle.amounts.specs.FirstFew.{Strict, GoesBy, kept}
use Rattle.amounts.proofs.Keep.{kept_sum}
use Rattle.ledger.specs.declared.terms.Kind.{Kind}
use Rattle.ledger.specs.declared.terms.Kind.TheVariants.{Stock, Dsp, Sri, Div}
use Rattle.ledger.specs.Kinds.{kind_number}
use Rattle.margin_rules.specs.declared.terms.Outcome.{Outcome}
use Rattle.margin_rules.specs.declared.terms.Holding.{Holding}
use Rattle.margin_rules.specs.Answers.{worse, larger}

worse_asym : (a b : Outcome) → worse a b ≡ true → worse b a ≡ false
worse_asym a b e = grind (arith, ints, nat_tests)

worse_trans : (a b c : Outcome) → worse a b ≡ true → worse b c ≡ true → worse a c ≡ true
worse_trans a b c e f = grind (arith, ints, nat_tests)

worse_one : (a b : Outcome) → worse a b ≡ false → worse b a ≡ false → a ≡ b
worse_one a b e f =
    let p : a.total ≡ b.total = grind (arith, ints, nat_tests) in
    let q : a.scenario ≡ b.scenario = grind (arith, ints, nat_tests) in
    λ i. record { total = p i; scenario = q i }

pub worse_strict : Strict worse
worse_strict = record { asym = worse_asym; trans = worse_trans; one = worse_one }

worse_yes : (a b : Outcome) → worse a b ≡ true → a.total ≤ℤ b.total
worse_yes a b e = grind (arith, ints, nat_tests)

worse_no : (a b : Outcome) → worse a b ≡ false → b.total ≤ℤ a.total
worse_no a b e = grind (arith, ints, nat_tests)

pub worse_by_total : GoesBy worse (λ o. o.total)
worse_by_total = record { yes = worse_yes; no = worse_no }

-- the totals of the worst outcomes add up to the tail
pub tail_is_kept : (k : ℕ) (os : List Outcome) → k ≤ length os → sum_of (λ o. o.total) (kept worse k os) ≡ tail_sum k (map (λ o. o.total) os)
tail_is_kept = kept_sum worse (λ o. o.total) worse_strict worse_by_total

-- a kind is told by its number
pub kind_told : (k j : Kind) → kind_number k ≡ kind_number j → k ≡ j
kind_told Stock Stock e = refl
kind_told Stock Dsp e = absurd (omega arith)
kind_told Stock Sri e = absurd (omega arith)
kind_told Stock Div e = absurd (omega arith)
kind_told Dsp Stock e = absurd (omega arith)
kind_told Dsp Dsp e = refl
kind_told Dsp Sri e = absurd (omega arith)
kind_told Dsp Div e = absurd (omega arith)
kind_told Sri Stock e = absurd (omega arith)
kind_told Sri Dsp e = absurd (omega arith)
kind_told Sri Sri e = refl
kind_told Sri Div e = absurd (omega arith)
kind_told Div Stock e = absurd (omega arith)
kind_told Div Dsp e = absurd (omega arith)
kind_told Div Sri e = absurd (omega arith)
kind_told Div Div e = refl

larger_asym : (a b : Holding) → larger a b ≡ true → larger b a ≡ false
larger_asym a b e = grind (arith, ints, nat_tests)

larger_trans : (a b c : Holding) → larger a b ≡ true → larger b c ≡ true → larger a c ≡ true
larger_trans a b c e f = grind (arith, ints, nat_tests)

larger_one : (a b : Holding) → larger a b ≡ false → larger b a ≡ false → a ≡ b
larger_one a b e f =
    let p : kind_number a.kind ≡ kind_number b.kind = grind (arith, ints, nat_tests) in
    let q : a.stock ≡ b.stock = grind (arith, ints, nat_tests) in
    let r : a.market_value ≡ b.market_value = grind (arith, ints, nat_tests) in
    let k = kind_told a.kind b.kind p in
    λ i. record { kind = k i; stock = q i; market_value = r i }

pub larger_strict : Strict larger
larger_strict = record { asym = larger_asym; trans = larger_trans; one = larger_one }
