-- One text written after another. Assumes nothing.
use Rattle.std.proofs.Common.{◌≡◌, ℕ, ◌-◌, List, ◌++◌, length, is_ok, Some, None, Ok, Option, Result, ap, ◌∙◌}
use Rattle.std.specs.Fmt.{WritesOnOk, DisplaysOnOk}
use Rattle.std.specs.declared.fmt.Error.{Error}
use Rattle.std.specs.declared.fmt.Formatter.{Formatter}
use Rattle.std.proofs.Output.{has_written_of_eq, writes_on_IsOk-append}
use Rattle.figures.specs.Columns.{Long, at_right, spaces}

module _ {W : Type 0} (took : W → List ℕ → W → Type 0) (f g h : Formatter W) (r s : Result (Unit {0}) Error) where
  -- a front that was written, and a back, make up a text
  pub prints_both : (a b text : List ℕ) {u : Unit {0}} → a ++ b ≡ text → r ≡ Ok u → WritesOnOk took f r a g → WritesOnOk took g s b h → WritesOnOk took f s text h
  prints_both a b text e ok p q plain done = has_written_of_eq took f (a ++ b) text h e (writes_on_IsOk-append took f g h r s a b (λ _. ap is_ok ok) p q plain done)

  -- spaces and a text make up a column
  pub shows_at_right : (width n k : ℕ) (o : Option (List ℕ)) {u : Unit {0}} → Long n o → k ≡ width - n → r ≡ Ok u → WritesOnOk took f r (spaces k) g → DisplaysOnOk took g s o h → DisplaysOnOk took f s (at_right width o) h
  shows_at_right width n k None long e ok p q = tt
  shows_at_right width n k (Some text) long e ok p q =
      prints_both (spaces k) text (spaces (width - length text) ++ text) (ap (λ (m : ℕ). spaces m ++ text) (e ∙ ap (λ (m : ℕ). width - m) long)) ok p q
