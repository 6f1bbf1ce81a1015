use Rattle.std.proofs.Common.{ℕ, ◌≤◌, ℤ, List, length, nat_abs, ap, ◌∙◌, arith, w64, FitsSigned, to_z, of_z, rules}
use Rattle.std.proofs.lemmas.Int.{ints, to_z-of_z}
use Rattle.amounts.specs.Charges.{long, short}
use Rattle.ledger.specs.declared.terms.Kind.TheVariants.{Stock}
use Rattle.margin.specs.Visits.{stock_in}
use Rattle.margin.specs.Parts.{belongs}
use Rattle.margin.specs.Groups.{stock_market}
use Rattle.margin.proofs.Visiting.{part_stocks, visiting_start, visiting_more, visiting_end, visits_few}
use Rattle.margin.proofs.SideLaws.{sides, max_small}
use Rattle.margin.proofs.Numbers.{through_sum}
use Rattle.margin.proofs.account.Assessable.side.Goals as goal

-- a small market value is held as it is
size_of : (v : ℤ) → nat_abs v ≤ 20000000000 → nat_abs (to_z w64 (of_z w64 v)) ≤ 20000000000
size_of v b = let f : FitsSigned w64 v = omega (arith, ints) in rw (to_z-of_z w64 v f) b

pub loop-stock-init : goal.loop-stock-init
loop-stock-init g c =
    let m = g.S.ReturnSource.meaning c.args.self.now.source.now in
    let xs = c.args.self.now.account.places.now in
    let s = c.args.self.now.account.settings.now in
    let all : List ℕ = part_stocks m s c.args.part xs in
    let e = c.visits_in-stock-items.ensures in
    let it = c.into_iter-stock-iterator.ensures.into_iter_gives in
    let is = ap (λ v. part_stocks (g.S.ReturnSource.meaning v.by.source.now) v.by.settings.now v.by.part v.places.now) it ∙ (λ i. part_stocks (g.S.ReturnSource.meaning (e.source i)) (e.settings i) (e.part i) (e.places i)) in
    record {
      longs = visiting_start 20000000000 (λ x. long (stock_market xs x)) all _ is;
      shorts = visiting_start 20000000000 (λ x. short (stock_market xs x)) all _ is;
    }

pub overflow_add-long : goal.overflow_add-long
overflow_add-long g c =
    let m = g.S.ReturnSource.meaning c.args.self.now.source.now in
    let xs = c.args.self.now.account.places.now in
    let s = c.args.self.now.account.settings.now in
    let few : length (part_stocks m s c.args.part xs) ≤ 4096 = omega (arith, visits_few (belongs m s c.args.part) (stock_in Stock) xs, c.args.self.now.account.few) in
    let lb : nat_abs c.long_of-long.result ≤ 20000000000 = omega (arith, c.long_of-long.ensures.bound, size_of c.market_of-value.result.dollars c.market_of-value.result.small) in
    let fl : FitsSigned w64 c.long_of-long.result = omega (arith, ints, lb) in
    rw (to_z-of_z w64 c.long_of-long.result fl) (omega (arith, ints, few, c.loop-stock.invariant.longs.size, lb))

pub overflow_add-short : goal.overflow_add-short
overflow_add-short g c =
    let m = g.S.ReturnSource.meaning c.args.self.now.source.now in
    let xs = c.args.self.now.account.places.now in
    let s = c.args.self.now.account.settings.now in
    let few : length (part_stocks m s c.args.part xs) ≤ 4096 = omega (arith, visits_few (belongs m s c.args.part) (stock_in Stock) xs, c.args.self.now.account.few) in
    let sb : nat_abs c.short_of-short.result ≤ 20000000000 = omega (arith, c.short_of-short.ensures.bound, size_of c.market_of-value.result.dollars c.market_of-value.result.small) in
    let fs : FitsSigned w64 c.short_of-short.result = omega (arith, ints, sb) in
    rw (to_z-of_z w64 c.short_of-short.result fs) (omega (arith, ints, few, c.loop-stock.invariant.shorts.size, sb))

pub loop-stock-preserved : goal.loop-stock-preserved
loop-stock-preserved g c =
    let m = g.S.ReturnSource.meaning c.args.self.now.source.now in
    let xs = c.args.self.now.account.places.now in
    let s = c.args.self.now.account.settings.now in
    let all : List ℕ = part_stocks m s c.args.part xs in
    let few : length all ≤ 4096 = omega (arith, visits_few (belongs m s c.args.part) (stock_in Stock) xs, c.args.self.now.account.few) in
    let fv : FitsSigned w64 c.market_of-value.result.dollars = omega (arith, ints, c.market_of-value.result.small) in
    let same = to_z-of_z w64 c.market_of-value.result.dollars fv ∙ c.market_of-value.ensures.value in
    let size : nat_abs (to_z w64 (of_z w64 c.market_of-value.result.dollars)) ≤ 20000000000 = rw (to_z-of_z w64 c.market_of-value.result.dollars fv) c.market_of-value.result.small in
    let lb : nat_abs c.long_of-long.result ≤ 20000000000 = omega (arith, c.long_of-long.ensures.bound) in
    let sb : nat_abs c.short_of-short.result ≤ 20000000000 = omega (arith, c.short_of-short.ensures.bound) in
    let fl : FitsSigned w64 c.long_of-long.result = omega (arith, ints, lb) in
    let fs : FitsSigned w64 c.short_of-short.result = omega (arith, ints, sb) in
    record {
      longs = visiting_more 20000000000 (λ x. long (stock_market xs x)) all _ _ c.in-Some.stock _ c.long_of-long.result _ c.in-Some.ensures.steps (c.long_of-long.ensures.value ∙ ap long same) lb (through_sum w64 _ c.long_of-long.result fl (omega (arith, ints, few, c.loop-stock.invariant.longs.size, lb))) c.loop-stock.invariant.longs;
      shorts = visiting_more 20000000000 (λ x. short (stock_market xs x)) all _ _ c.in-Some.stock _ c.short_of-short.result _ c.in-Some.ensures.steps (c.short_of-short.ensures.value ∙ ap short same) sb (through_sum w64 _ c.short_of-short.result fs (omega (arith, ints, few, c.loop-stock.invariant.shorts.size, sb))) c.loop-stock.invariant.shorts;
    }

pub returns-clause-value : goal.returns-clause-value
returns-clause-value g c =
    let m = g.S.ReturnSource.meaning c.args.self.now.source.now in
    let xs = c.args.self.now.account.places.now in
    let s = c.args.self.now.account.settings.now in
    let all : List ℕ = part_stocks m s c.args.part xs in
    let f : FitsSigned w64 c.max.result = search rules in
    to_z-of_z w64 c.max.result f ∙ c.max.ensures.value ∙
    sides m s c.args.part xs c.args.self.now.account.sound _ _
    (visiting_end 20000000000 (λ x. long (stock_market xs x)) all _ _ c.in-None.ensures.steps.0 c.loop-stock.invariant.longs)
    (visiting_end 20000000000 (λ x. short (stock_market xs x)) all _ _ c.in-None.ensures.steps.0 c.loop-stock.invariant.shorts)

pub returns-clause-bound : goal.returns-clause-bound
returns-clause-bound g c =
    let m = g.S.ReturnSource.meaning c.args.self.now.source.now in
    let xs = c.args.self.now.account.places.now in
    let s = c.args.self.now.account.settings.now in
    let few : length (part_stocks m s c.args.part xs) ≤ 4096 = omega (arith, visits_few (belongs m s c.args.part) (stock_in Stock) xs, c.args.self.now.account.few) in
    let l = c.loop-stock.invariant.longs.size in
    let k = c.loop-stock.invariant.shorts.size in
    let f : FitsSigned w64 c.max.result = search rules in
    let b = max_small (to_z w64 c.loop-stock.long-bits) (to_z w64 c.loop-stock.short-bits) 81920000000000 (omega (arith, few, l)) (omega (arith, few, k)) in
    rw (to_z-of_z w64 c.max.result f) (omega (arith, ap nat_abs c.max.ensures.value, b))
