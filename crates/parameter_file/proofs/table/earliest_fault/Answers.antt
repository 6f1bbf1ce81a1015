use Rattle.std.proofs.Common.{◌∙◌, rules}
use Rattle.std.proofs.lemmas.Iterator.{YieldsList-from_slice}
use Rattle.std.proofs.lemmas.Iterator.Consumers.{YieldsList-from_filter_map, min_from_yields_List}
use Rattle.parameter_file.specs.Table.{fault_in}
use Rattle.parameter_file.proofs.JudgingLaws.{least_fault, mapped_same}
use Rattle.parameter_file.proofs.table.earliest_fault.Goals as goal

pub returns : goal.returns
returns c =
    mapped_same c.min.result
    ∙ min_from_yields_List _ _ c.min.ensures.ran (YieldsList-from_filter_map _ fault_in (YieldsList-from_slice c.args.table.now cc) c.filter_map.ensures.closure (λ x r q k. search rules))
    ∙ least_fault c.args.table.now
