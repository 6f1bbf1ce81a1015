use Rattle.std.proofs.Common.{◌≡◌, ◌+◌, ◌≤◌, length, take, Ok, Err, sym, ap, ◌∙◌, arith, rules}
use Rattle.std.proofs.lemmas.List.{length-set, drop-set-lt}
use Rattle.ledger.specs.declared.terms.Place.{Place}
use Rattle.ledger.specs.Table.{live_count}
use Rattle.ledger.specs.Calls.{checked_post}
use Rattle.margin.proofs.TableWrites.{few_live, stored, not_stored}
use Rattle.margin.proofs.opened.OpenAccount.store.Goals as goal

pub returns-in_err-entry : goal.returns-in_err-entry
returns-in_err-entry c =
    let xs = c.args.self.now.table.now in
    let u = c.args.self.now.used in
    let w : u ≤ length xs = search rules in
    let y = c.in_err-entry.field-0.0 in
    let h : checked_post (length xs) c.args.posting (take u xs) ≡ Err y = search rules in
    let r : c.from_residual.result ≡ Err y = search rules in
    let k = not_stored xs u w c.args.posting y h in
    record {
      answer = r ∙ sym k.answer;
      places = k.places;
      rest = search rules;
      room = search rules;
      settings = search rules;
      named = search rules;
    }

pub overflow_add-self-2 : goal.overflow_add-self-2
overflow_add-self-2 c =
    let xs = c.args.self.now.table.now in
    let u = c.args.self.now.used in
    let w : u ≤ length xs = search rules in
    let f : length xs ≤ 4096 = search rules in
    let k : c.args.self.now.live ≡ live_count (take u xs) = search rules in
    let l = few_live xs u w in
    let b : c.args.self.now.live ≤ 4096 = omega arith in
    search rules

pub invariant_of-self : goal.invariant_of-self
invariant_of-self c =
    let xs = c.args.self.now.table.now in
    let u = c.args.self.now.used in
    let w : u ≤ length xs = search rules in
    let h : checked_post (length xs) c.args.posting (take u xs) ≡ Ok c.in_ok-entry.entry = search rules in
    let k : c.args.self.now.live ≡ live_count (take u xs) = search rules in
    let s = stored xs u w c.args.posting c.in_ok-entry.entry h in
    record { within = omega (arith, s.room, length-set {A = Place}); few = search rules; in_range = search rules; count = ap (λ m. m + 1) k ∙ sym s.count; fine = s.fine (search rules) }

pub returns : goal.returns
returns c =
    let xs = c.args.self.now.table.now in
    let u = c.args.self.now.used in
    let w : u ≤ length xs = search rules in
    let h : checked_post (length xs) c.args.posting (take u xs) ≡ Ok c.in_ok-entry.entry = search rules in
    let k : c.args.self.now.live ≡ live_count (take u xs) = search rules in
    let s = stored xs u w c.args.posting c.in_ok-entry.entry h in
    record {
      answer = ap (λ m. Ok (m + 1)) k ∙ sym s.answer;
      places = s.places;
      rest = drop-set-lt (u + 1) xs u _ (omega arith);
      room = length-set xs u _;
      settings = search rules;
      named = search rules;
    }
