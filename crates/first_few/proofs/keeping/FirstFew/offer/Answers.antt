use Rattle.std.proofs.Common.{length, take, ◌∙◌}
use Rattle.first_few.proofs.Kept.{first_more}
use Rattle.first_few.proofs.keeping.FirstFew.offer.Goals as goal

pub returns-clause-keeps_the_first : goal.returns-clause-keeps_the_first
returns-clause-keeps_the_first g c xs e =
    let old = c.args.self.now in
    c.insert-self.ensures.kept ∙ first_more g.T.Order.before g.met.T.Order.strict (length old.places.now) xs (take old.len old.places.now) c.args.x e
