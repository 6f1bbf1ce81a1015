use Rattle.std.proofs.Common.{rules, tests}
use Rattle.command_line.specs.Items.{seen, items_left}
use Rattle.command_line.proofs.ItemLaws.{next_passing, first_text}
use Rattle.command_line.proofs.items.Items.find_of.Goals as goal

pub returns : goal.returns
returns g c =
    let next = next_passing seen (items_left g.K.WordKind.kind_of g.K.WordKind.lacking) (λ i. g.K.WordKind.same i.kind c.args.kind) _ _ (λ x b q k. search (rules, tests)) c.args.self.now c.find.new.self c.find.result c.find.ensures.ran in
    record { item = next; text = first_text _ _ c.find.result next }
