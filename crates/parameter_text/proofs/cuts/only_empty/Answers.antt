use Rattle.std.proofs.Common.{◌∙◌, sym, rules, tests}
use Rattle.std.proofs.lemmas.Iterator.Search.{all_from_yields_List}
use Rattle.std.proofs.lemmas.Iterator.Consumers.{YieldsList-from_first}
use Rattle.parameter_text.specs.Cuts.{empty}
use Rattle.parameter_text.specs.Left.{cells_left}
use Rattle.parameter_text.proofs.CutLaws.{all_empty_all}
use Rattle.parameter_text.proofs.cuts.only_empty.Goals as goal

pub returns : goal.returns
returns c =
    all_from_yields_List empty c.all.new.self _ _ c.all.ensures.ran (YieldsList-from_first (λ x. x.now) cells_left (cells_left c.args.cells) cc) (λ x b q k. search (rules, tests))
    ∙ sym (all_empty_all (cells_left c.args.cells))
