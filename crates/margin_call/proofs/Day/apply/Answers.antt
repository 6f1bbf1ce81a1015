use Rattle.std.proofs.Common.{Vec, Global, ◌≡◌, ◌<◌, ℕ, List, [], length, map, take, drop, get_or, refl, sym, ap, ◌∙◌, arith}
use Rattle.std.proofs.lemmas.List.{drop_all, length-map, get_or-map}
use Rattle.margin_call.specs.Applied.{places_after, journal_calls, all_calls}
use Rattle.margin_call.proofs.AppliedLaws.{after_journal}
use Rattle.margin_call.proofs.Day.apply.Goals as goal

abbrev bytes_in : Vec ℕ Global → List ℕ
bytes_in v = v.items

pub loop-index-init : goal.loop-index-init
loop-index-init c = record { applied = refl; room = refl; settings = refl }

pub returns-in_err-apply_journal-clause-room : goal.returns-in_err-apply_journal-clause-room
returns-in_err-apply_journal-clause-room c = c.apply_journal.ensures.room ∙ c.loop-index.invariant.room

pub returns-in_err-apply_journal-clause-settings : goal.returns-in_err-apply_journal-clause-settings
returns-in_err-apply_journal-clause-settings c = c.apply_journal.ensures.settings ∙ c.loop-index.invariant.settings

pub loop-index-preserved : goal.loop-index-preserved
loop-index-preserved c =
    let here : c.as_slice.result.now ≡ get_or (map bytes_in c.args.self.now.journals.now) c.loop-index.index [] = c.as_slice.ensures.value ∙ ap bytes_in c.journal-item.is ∙ sym (get_or-map bytes_in c.args.self.now.journals.now c.loop-index.index _ [] (omega arith)) in
    let done : take c.apply_journal.new.account.used c.apply_journal.new.account.table.now ≡ places_after (length c.args.account.now.table.now) (journal_calls c.as_slice.result.now) (take c.loop-index.account.used c.loop-index.account.table.now) = c.in_ok-apply_journal.ensures.places ∙ ap (λ (n : ℕ). places_after n (journal_calls c.as_slice.result.now) (take c.loop-index.account.used c.loop-index.account.table.now)) c.loop-index.invariant.room in
    let within : ◌<◌ c.loop-index.index (length (map bytes_in c.args.self.now.journals.now)) = omega (arith, length-map c.args.self.now.journals.now bytes_in) in
    record { applied = after_journal _ _ _ _ _ _ within here done ∙ c.loop-index.invariant.applied; room = c.apply_journal.ensures.room ∙ c.loop-index.invariant.room; settings = c.apply_journal.ensures.settings ∙ c.loop-index.invariant.settings }

pub returns-clause-places : goal.returns-clause-places
returns-clause-places c =
    let all = map bytes_in c.args.self.now.journals.now in
    let none : drop c.loop-index.index all ≡ [] = drop_all c.loop-index.index all (omega (arith, length-map c.args.self.now.journals.now bytes_in)) in
    ap (λ (texts : List (List ℕ)). places_after (length c.args.account.now.table.now) (all_calls texts) (take c.loop-index.account.used c.loop-index.account.table.now)) (sym none) ∙ c.loop-index.invariant.applied

pub returns-clause-room : goal.returns-clause-room
returns-clause-room c = c.loop-index.invariant.room

pub returns-clause-settings : goal.returns-clause-settings
returns-clause-settings c = c.loop-index.invariant.settings
