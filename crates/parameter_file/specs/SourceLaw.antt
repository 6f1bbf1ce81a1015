-- A checked file is lawful as a return source, since what passes the check lays down a lawful one. The law stands here
-- because the implementation of the interface names it. Assumes nothing.
use Rattle.std.specs.Prelude.{◌≡◌, ℕ, true, List, is_ok, Ok, Err, Result}
use Rattle.std.proofs.Common.{sym, refl, subst}
use Rattle.std.proofs.lemmas.Bool.{false≢true}
use Rattle.return_source.specs.Lawful.{Lawful}
use Rattle.parameter_heading.specs.declared.terms.Fault.{Fault}
use Rattle.parameter_heading.specs.declared.terms.Heading.{Heading}
use Rattle.file_rules.specs.Rows.{File, meaning}
use Rattle.file_rules.specs.Judged.{verdict}
use Rattle.file_rules.proofs.SourceLaws.{passes_lawful}
use Rattle.parameter_file.specs.Checked.{passes, rows_in, heading_in, meaning_of}

judged_lawful : (bytes : List ℕ) (r : Result File Fault) (h : Heading) → verdict bytes ≡ r → is_ok r ≡ true → h ≡ heading_in r h → Lawful (meaning (record { heading = h; rows = rows_in r }))
judged_lawful bytes (Ok f) h e ok same = subst (λ (k : Heading). Lawful (meaning (record { heading = k; rows = f.rows }))) (sym same) (passes_lawful bytes f e)
judged_lawful bytes (Err x) h e ok same = absurd (false≢true ok)

pub checked_lawful : (bytes : List ℕ) (h : Heading) → passes bytes ≡ true → h ≡ heading_in (verdict bytes) h → Lawful (meaning_of bytes h)
checked_lawful bytes h ok same = judged_lawful bytes (verdict bytes) h refl ok same
