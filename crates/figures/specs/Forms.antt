-- Of two texts, the one in the form that is asked for. Assumes nothing.
use Rattle.std.specs.Prelude.{ℕ, List, Option}
use Rattle.figures.specs.declared.form.Form.{Form}
use Rattle.figures.specs.declared.form.Form.TheVariants.{Report, Csv}

-- the text for people, or the one for scripts, where they are known
abbrev pub in_form : Form → Option (List ℕ) → Option (List ℕ) → Option (List ℕ)
in_form Report report csv = report
in_form Csv report csv = csv
