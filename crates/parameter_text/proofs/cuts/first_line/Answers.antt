use Rattle.std.proofs.Common.{ℕ, List, ◌∷◌, ap, ◌∙◌, sym, rules}
use Rattle.parameter_text.specs.Cuts.{lines}
use Rattle.parameter_text.proofs.LineLaws.{first_cut, first_whole}
use Rattle.parameter_text.proofs.cuts.first_line.Goals as goal

pub returns-in-Some : goal.returns-in-Some
returns-in-Some c =
    let f = first_cut c.args.text.now _ _ c.in-Some.ensures in
    (c.chomp.ensures ∙ f.0, f.1, f.2 ∙ ap (λ (l : List ℕ). l ∷ lines c.in-Some.rest.now) (sym c.chomp.ensures))

pub returns-in-None : goal.returns-in-None
returns-in-None c = first_whole c.args.text.now (search rules) c.in-None.ensures
