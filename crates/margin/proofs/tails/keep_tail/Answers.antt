use Rattle.std.proofs.Common.{length, get_or, pos, ap, ◌∙◌, arith, rules, w64, SFits}
use Rattle.std.proofs.lemmas.Int.{to_z-of_z}
use Rattle.amounts.specs.FirstFew.{kept}
use Rattle.margin_rules.specs.Answers.{worse}
use Rattle.margin.specs.Outcomes.{outcomes}
use Rattle.margin.proofs.Outcomes.{tailed_more, tailed_all}
use Rattle.margin.proofs.tails.keep_tail.Goals as goal

pub loop-i-preserved : goal.loop-i-preserved
loop-i-preserved c =
    let ts = c.args.totals.now in
    let i = c.loop-i.i in
    let f : SFits w64 (get_or ts i (pos 0)) = search rules in
    tailed_more (length c.new-first.result.places.now) ts i c.loop-i.first.places.now c.offer.new.self.places.now c.loop-i.first.len c.offer.new.self.len _ (omega arith) (to_z-of_z w64 (get_or ts i (pos 0)) f)
    c.offer.ensures.kept c.offer.ensures.room c.loop-i.invariant

pub returns : goal.returns
returns c =
    tailed_all (length c.new-first.result.places.now) c.args.totals.now c.loop-i.i c.loop-i.first.places.now c.loop-i.first.len (omega arith) c.loop-i.invariant
    ∙ ap (λ l. kept worse (length l) (outcomes 0 c.args.totals.now)) c.new-first.ensures.places
