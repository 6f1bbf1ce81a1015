use Rattle.std.proofs.Common.{◌≡◌, ◌+◌, ◌-◌, length, take, drop, set, sym, ap, ◌∙◌, subst, arith}
use Rattle.first_few.specs.Order.{InOrder}
use Rattle.first_few.proofs.Inserts.{ranks, keep_none, keep_is, take_written, drop_written, in_order_keep}
use Rattle.first_few.proofs.Shifts.{moved}
use Rattle.first_few.proofs.inserting.insert.Goals as goal

pub returns-then-at-cap-clause-kept : goal.returns-then-at-cap-clause-kept
returns-then-at-cap-clause-kept g c =
    let same : c.args.len - 0 ≡ c.args.len = omega arith in
    let at = rw same at c.place_of-at.ensures.value in
    keep_none (ranks g.met.T.Order.strict) c.args.x c.args.places.now c.args.len c.place_of-at.result 0 c.requires.within at c.if-at-cap.true

pub returns : goal.returns
returns g c =
    let o = ranks g.met.T.Order.strict in
    let old = c.args.places.now in
    let x = c.args.x in
    let len = c.args.len in
    let at = c.place_of-at.result in
    let end = c.last_in_use-end.result in
    let same : c.args.len - 0 ≡ c.args.len = omega arith in
    let s = rw same at c.place_of-at.ensures.value in
    let after : set c.shift.new.places at x ≡ set (moved old at end) at x = ap (λ l. set l at x) c.shift.ensures in
    let kept =
    ap (take (end + 1)) after ∙ take_written o x old len at end c.requires.within s c.if-at-cap.false c.last_in_use-end.ensures
    ∙ sym (keep_is o x old len at end c.requires.within s c.if-at-cap.false c.last_in_use-end.ensures) in
    record {
      count = omega arith;
      kept = kept;
      spare = ap (drop (end + 1)) after ∙ drop_written o x old len at end c.requires.within s c.if-at-cap.false c.last_in_use-end.ensures;
      in_order = subst (InOrder g.T.Order.before) (sym kept) (in_order_keep o (length old) x (take len old) c.requires.in_order);
    }
