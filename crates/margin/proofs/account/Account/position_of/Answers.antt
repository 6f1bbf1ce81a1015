use Rattle.std.proofs.Common.{refl, ap, get_or, arith}
use Rattle.std.proofs.lemmas.Int.{ints}
use Rattle.ledger.specs.declared.terms.Place.TheVariants.{Free}
use Rattle.margin_rules.specs.Positions.{market_in}
use Rattle.margin.specs.Positions.{quantity_in, contract_in}
use Rattle.margin.proofs.Support.{sound_at}
use Rattle.margin.proofs.Sums.{so_far_more, quantity_small, contract_small, market_small}
use Rattle.margin.proofs.account.Account.position_of.Goals as goal

pub overflow_add-sums : goal.overflow_add-sums
overflow_add-sums c =
    let xs = c.args.self.now.places.now in
    let i = c.loop-place.place-index in
    let b = quantity_small c.args.kind c.args.stock (get_or xs i Free) (sound_at xs i c.loop-place-test.true c.args.self.now.sound) in
    let e = ap (λ p. p.quantity) c.part_of-part.ensures in
    omega (arith, ints, b, e, c.loop-place.invariant.quantity.size)

pub overflow_add-sums-in-loop-place : goal.overflow_add-sums-in-loop-place
overflow_add-sums-in-loop-place c =
    let xs = c.args.self.now.places.now in
    let i = c.loop-place.place-index in
    let b = contract_small c.args.kind c.args.stock (get_or xs i Free) (sound_at xs i c.loop-place-test.true c.args.self.now.sound) in
    let e = ap (λ p. p.contract_value) c.part_of-part.ensures in
    omega (arith, ints, b, e, c.loop-place.invariant.contract_value.size)

pub overflow_add-sums-in-loop-place-2 : goal.overflow_add-sums-in-loop-place-2
overflow_add-sums-in-loop-place-2 c =
    let xs = c.args.self.now.places.now in
    let i = c.loop-place.place-index in
    let b = market_small c.args.kind c.args.stock (get_or xs i Free) (sound_at xs i c.loop-place-test.true c.args.self.now.sound) in
    let e = ap (λ p. p.market_value) c.part_of-part.ensures in
    omega (arith, ints, b, e, c.loop-place.invariant.market_value.size)

pub loop-place-preserved : goal.loop-place-preserved
loop-place-preserved c =
    let xs = c.args.self.now.places.now in
    let i = c.loop-place.place-index in
    let s = sound_at xs i c.loop-place-test.true c.args.self.now.sound in
    let q = quantity_small c.args.kind c.args.stock (get_or xs i Free) s in
    let v = contract_small c.args.kind c.args.stock (get_or xs i Free) s in
    let m = market_small c.args.kind c.args.stock (get_or xs i Free) s in
    let eq = ap (λ p. p.quantity) c.part_of-part.ensures in
    let ev = ap (λ p. p.contract_value) c.part_of-part.ensures in
    let em = ap (λ p. p.market_value) c.part_of-part.ensures in
    record {
      quantity =
          so_far_more 20000000000 (quantity_in c.args.kind c.args.stock) xs i Free c.loop-place.sums.quantity (quantity_in c.args.kind c.args.stock (get_or xs i Free)) _
          (omega (arith, ints, q, eq, c.loop-place.invariant.quantity.size)) c.loop-place-test.true refl q c.loop-place.invariant.quantity;
      contract_value =
          so_far_more 20000000000 (contract_in c.args.kind c.args.stock) xs i Free c.loop-place.sums.contract_value (contract_in c.args.kind c.args.stock (get_or xs i Free)) _
          (omega (arith, ints, v, ev, c.loop-place.invariant.contract_value.size)) c.loop-place-test.true refl v c.loop-place.invariant.contract_value;
      market_value =
          so_far_more 20000000000 (market_in c.args.kind c.args.stock) xs i Free c.loop-place.sums.market_value (market_in c.args.kind c.args.stock (get_or xs i Free)) _
          (omega (arith, ints, m, em, c.loop-place.invariant.market_value.size)) c.loop-place-test.true refl m c.loop-place.invariant.market_value;
    }
