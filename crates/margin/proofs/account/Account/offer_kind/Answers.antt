use Rattle.std.proofs.Common.{◌≡◌, ℕ, [], ◌∷◌, ℤ, List, map, length, take, fold, refl, sym, ap, ◌∙◌, arith, w64, SFits}
use Rattle.std.proofs.lemmas.Int.{ints, to_z-of_z}
use Rattle.amounts.specs.FirstFew.{keep}
use Rattle.margin_rules.specs.declared.terms.Holding.{Holding}
use Rattle.margin_rules.specs.Answers.{larger}
use Rattle.margin.specs.Visits.{stock_in, visited}
use Rattle.margin.specs.Listing.{holding, listed}
use Rattle.margin.proofs.Offering.{way_as, way_more}
use Rattle.margin.proofs.Visiting.{stocks, filter_all}
use Rattle.margin.proofs.account.Account.offer_kind.Goals as goal

pub loop-stock-init : goal.loop-stock-init
loop-stock-init c =
    let xs = c.args.self.now.places.now in
    let before = c.args.list.now in
    let e = c.visits-stock-items.ensures in
    let it = c.into_iter-stock-iterator.ensures.into_iter_gives in
    let all = ap (λ v. stocks v.by v.places.now) it ∙ (λ i. stocks (e.by i) (e.places i)) ∙ filter_all (visited (stock_in c.args.kind) xs) in
    record {
      same = refl;
      way = record {
        way = ap (λ us. fold (keep larger (length before.places.now)) (take before.len before.places.now) (map (holding xs c.args.kind) us)) all;
        more = omega arith;
        spare = refl;
        room = refl;
      };
    }

pub loop-stock-preserved : goal.loop-stock-preserved
loop-stock-preserved c =
    let xs = c.args.self.now.places.now in
    let before = c.args.list.now in
    let n : ℕ = length before.places.now in
    let h : ℕ → Holding = holding xs c.args.kind in
    let len : ℕ = c.loop-stock.list.len in
    let places : List Holding = c.loop-stock.list.places.now in
    let left : List ℕ = stocks c.loop-stock.stock-iterator.by c.loop-stock.stock-iterator.places.now in
    let rest : List ℕ = stocks c.next.new.self.by c.next.new.self.places.now in
    let steps : left ≡ c.in-Some.stock ∷ rest = c.in-Some.ensures.steps in
    let e = c.offer.ensures in
    let r = c.market_of.result in
    let b = c.market_of.ensures.bound in
    let f : SFits w64 r = omega (arith, ints, b) in
    let is : ℤ → Holding = λ v. record { kind = c.args.kind; stock = c.in-Some.stock; market_value = v } in
    let k = e.kept ∙ ap (λ v. keep larger (length places) (take len places) (is v)) (to_z-of_z w64 r f ∙ c.market_of.ensures.value) in
    record {
      same = e.same ∙ c.loop-stock.invariant.same;
      way =
          way_more larger n (take before.len before.places.now) before.len (listed xs c.args.kind) before.places.now (h c.in-Some.stock) (map h rest) len c.offer.new.self.len places c.offer.new.self.places.now
          c.loop-stock.list.within e.count k e.spare e.room
          (way_as larger n (take before.len before.places.now) before.len (listed xs c.args.kind) before.places.now (map h left) (h c.in-Some.stock ∷ map h rest) len places
          (ap (λ us. fold (keep larger n) (take len places) (map h us)) steps) c.loop-stock.invariant.way);
    }

pub returns : goal.returns
returns c =
    let h : ℕ → Holding = holding c.args.self.now.places.now c.args.kind in
    let n : ℕ = length c.args.list.now.places.now in
    let len : ℕ = c.loop-stock.list.len in
    let places : List Holding = c.loop-stock.list.places.now in
    let left : List ℕ = stocks c.loop-stock.stock-iterator.by c.loop-stock.stock-iterator.places.now in
    let none : left ≡ [] = c.in-None.ensures.steps.0 in
    let w = c.loop-stock.invariant.way in
    record {
      kept = sym (ap (λ us. fold (keep larger n) (take len places) (map h us)) none) ∙ w.way;
      more = w.more;
      spare = w.spare;
      room = w.room;
      same = c.loop-stock.invariant.same;
    }
