use Rattle.std.proofs.Common.{arith}
use Rattle.std.proofs.lemmas.Int.{ints}
use Rattle.ledger.specs.declared.terms.Place.TheVariants.{Free}
use Rattle.margin_rules.specs.Positions.{mark_in}
use Rattle.margin.proofs.Support.{sound_at}
use Rattle.margin.proofs.Sums.{so_far_start, so_far_more, so_far_all}
use Rattle.margin.proofs.account.Account.mark.Goals as goal

pub mark_in-sum-requires : goal.mark_in-sum-requires
mark_in-sum-requires c = sound_at c.args.self.now.places.now c.loop-place.place-index c.loop-place-test.true c.args.self.now.sound

pub overflow_add-sum : goal.overflow_add-sum
overflow_add-sum c = omega (arith, ints, c.loop-place.invariant.size, c.mark_in-sum.ensures.bound)

pub loop-place-init : goal.loop-place-init
loop-place-init c = so_far_start 40000000000 mark_in c.args.self.now.places.now

pub loop-place-preserved : goal.loop-place-preserved
loop-place-preserved c =
    so_far_more 40000000000 mark_in c.args.self.now.places.now c.loop-place.place-index Free _ c.mark_in-sum.result _
    (omega (arith, ints, c.loop-place.invariant.size, c.mark_in-sum.ensures.bound)) c.loop-place-test.true c.mark_in-sum.ensures.value c.mark_in-sum.ensures.bound c.loop-place.invariant

pub returns : goal.returns
returns c =
    record {
      value = so_far_all 40000000000 mark_in c.args.self.now.places.now c.loop-place.place-index _ c.loop-place-test.false c.loop-place.invariant;
      bound = omega (arith, ints, c.loop-place.invariant.size);
    }
