use Rattle.first_few.proofs.Kept.{keeps_the_first}
use Rattle.first_few.proofs.keeping.FirstFew.new.Goals as goal

pub returns-clause-keeps_the_first : goal.returns-clause-keeps_the_first
returns-clause-keeps_the_first g c = keeps_the_first g.T.Order.before g.met.T.Order.strict
