use Rattle.std.proofs.Common.{◌≡◌, ◌+◌, ◌-◌, ◌≤◌, length, take, set, Ok, Err, sym, ap, ◌∙◌, arith, rules}
use Rattle.std.proofs.lemmas.List.{length-set, drop-set-lt}
use Rattle.ledger.specs.declared.terms.Place.TheVariants.{Cancelled}
use Rattle.ledger.specs.declared.terms.Place.{Place}
use Rattle.ledger.specs.Table.{live_count}
use Rattle.ledger.specs.Calls.{checked_cancel}
use Rattle.margin.proofs.TableWrites.{marked, new, not_cancelled}
use Rattle.margin.proofs.opened.OpenAccount.end.Goals as goal

pub returns-in_err-at : goal.returns-in_err-at
returns-in_err-at c =
    let xs = c.args.self.now.table.now in
    let u = c.args.self.now.used in
    let n = c.args.number in
    let w : u ≤ length xs = search rules in
    let y = c.in_err-at.field-0.0 in
    let h : checked_cancel (length xs) n (take u xs) ≡ Err y = search rules in
    let r : c.from_residual.result ≡ Err y = search rules in
    let k = not_cancelled xs u w n y h in
    record {
      answer = r ∙ sym k.answer;
      places = k.places;
      rest = search rules;
      room = search rules;
      settings = search rules;
      named = search rules;
    }

pub overflow_sub-self : goal.overflow_sub-self
overflow_sub-self c =
    let xs = c.args.self.now.table.now in
    let u = c.args.self.now.used in
    let n = c.args.number in
    let w : u ≤ length xs = search rules in
    let h : checked_cancel (length xs) n (take u xs) ≡ Ok c.in_ok-at.at = search rules in
    let k : c.args.self.now.live ≡ live_count (take u xs) = search rules in
    let s = marked xs u w n c.in_ok-at.at h (search rules) in
    omega (arith, s.count)

pub invariant_of-self : goal.invariant_of-self
invariant_of-self c =
    let xs = c.args.self.now.table.now in
    let u = c.args.self.now.used in
    let n = c.args.number in
    let w : u ≤ length xs = search rules in
    let h : checked_cancel (length xs) n (take u xs) ≡ Ok c.in_ok-at.at = search rules in
    let k : c.args.self.now.live ≡ live_count (take u xs) = search rules in
    let s = marked xs u w n c.in_ok-at.at h (search rules) in
    record { within = omega (arith, w, length-set {A = Place}); few = search rules; in_range = search rules; count = omega (arith, s.count, k); fine = s.fine (search rules) }

pub returns-then-at-used : goal.returns-then-at-used
returns-then-at-used c =
    let xs = c.args.self.now.table.now in
    let u = c.args.self.now.used in
    let n = c.args.number in
    let w : u ≤ length xs = search rules in
    let h : checked_cancel (length xs) n (take u xs) ≡ Ok c.in_ok-at.at = search rules in
    let k : c.args.self.now.live ≡ live_count (take u xs) = search rules in
    let s = marked xs u w n c.in_ok-at.at h (search rules) in
    let one : c.args.self.now.live - 1 ≡ live_count (take u (set xs c.in_ok-at.at (Cancelled n))) = omega (arith, s.count, k) in
    record {
      answer = ap Ok one ∙ sym s.answer;
      places = s.places;
      rest = drop-set-lt u xs _ _ (search rules);
      room = length-set xs _ _;
      settings = search rules;
      named = search rules;
    }

pub bounds-self-used : goal.bounds-self-used
bounds-self-used c =
    let xs = c.args.self.now.table.now in
    let u = c.args.self.now.used in
    let n = c.args.number in
    let w : u ≤ length xs = search rules in
    let h : checked_cancel (length xs) n (take u xs) ≡ Ok c.in_ok-at.at = search rules in
    let k : c.args.self.now.live ≡ live_count (take u xs) = search rules in
    let s = new xs u w n c.in_ok-at.at h (search rules) in
    s.room

pub invariant_of-self-2 : goal.invariant_of-self-2
invariant_of-self-2 c =
    let xs = c.args.self.now.table.now in
    let u = c.args.self.now.used in
    let n = c.args.number in
    let w : u ≤ length xs = search rules in
    let h : checked_cancel (length xs) n (take u xs) ≡ Ok c.in_ok-at.at = search rules in
    let k : c.args.self.now.live ≡ live_count (take u xs) = search rules in
    let s = new xs u w n c.in_ok-at.at h (search rules) in
    record { within = omega (arith, s.room, length-set {A = Place}); few = search rules; in_range = search rules; count = k ∙ sym s.count; fine = s.fine (search rules) }

pub returns : goal.returns
returns c =
    let xs = c.args.self.now.table.now in
    let u = c.args.self.now.used in
    let n = c.args.number in
    let w : u ≤ length xs = search rules in
    let h : checked_cancel (length xs) n (take u xs) ≡ Ok c.in_ok-at.at = search rules in
    let k : c.args.self.now.live ≡ live_count (take u xs) = search rules in
    let s = new xs u w n c.in_ok-at.at h (search rules) in
    record {
      answer = ap Ok k ∙ sym s.answer;
      places = s.places;
      rest = drop-set-lt (u + 1) xs u _ (omega arith);
      room = length-set xs u _;
      settings = search rules;
      named = search rules;
    }
