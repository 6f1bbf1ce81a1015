use Rattle.std.proofs.Common.{rules, tests, ap}
use Rattle.std.proofs.lemmas.Iterator.Consumers.{count_from_yields_List, YieldsList-from_filter, YieldsList-from_first}
use Rattle.command_line.specs.Items.{seen, items_left}
use Rattle.command_line.proofs.items.Items.count_of.Goals as goal

pub returns : goal.returns
returns g c =
    count_from_yields_List c.filter.result c.count.result c.count.ensures.ran
    (YieldsList-from_filter _ (λ i. g.K.WordKind.same i.kind c.args.kind) (YieldsList-from_first seen (items_left g.K.WordKind.kind_of g.K.WordKind.lacking) _ (ap (items_left g.K.WordKind.kind_of g.K.WordKind.lacking) c.filter.ensures.source)) c.filter.ensures.closure (λ x r q k. search (rules, tests)))
