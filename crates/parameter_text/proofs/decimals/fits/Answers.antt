use Rattle.std.proofs.Common.{eqb, drop, sym, ◌∙◌, rules, tests}
use Rattle.std.proofs.lemmas.Iterator.{YieldsList-from_slice}
use Rattle.std.proofs.lemmas.Iterator.Adapters.{YieldsList-from_skip}
use Rattle.std.proofs.lemmas.Iterator.Consumers.{YieldsList-at}
use Rattle.std.proofs.lemmas.Iterator.Search.{all_from_yields_List}
use Rattle.parameter_text.proofs.DigitSteps.{every_all}
use Rattle.parameter_text.proofs.decimals.fits.Goals as goal

pub returns : goal.returns
returns c =
    let rest = drop c.args.places c.args.fraction.now in
    all_from_yields_List (eqb 48) _ _ _ c.all.ensures.ran (YieldsList-from_skip c.args.places (YieldsList-at c.skip.ensures.source (YieldsList-from_slice c.args.fraction.now cc)) c.skip.ensures.count) (λ x b q k. search (rules, tests)) ∙ sym (every_all (eqb 48) rest)
