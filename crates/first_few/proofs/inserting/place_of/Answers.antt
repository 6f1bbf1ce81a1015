use Rattle.std.proofs.Common.{rules, ◌≡◌, ◌+◌, MatchOption}
use Rattle.first_few.proofs.Inserts.{ranks, placed}
use Rattle.first_few.proofs.inserting.place_of.Goals as goal

pub returns-clause-value : goal.returns-clause-value
returns-clause-value g c =
    let last = c.last_ahead.ensures in
    let one : MatchOption c.last_ahead.result (c.map_or.result ≡ 0) (λ i. c.map_or.result ≡ i + 1) = search rules in
    placed (ranks g.met.T.Order.strict) c.args.x c.args.part.now c.last_ahead.result c.map_or.result c.requires last.inside last.ahead last.behind last.all_behind one
