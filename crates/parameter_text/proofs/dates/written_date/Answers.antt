use Rattle.std.proofs.Common.{◌≡◌, ℕ, true, false, List, ◌∷◌, Some, None, Option, MatchOption, sym, ap, ◌∙◌}
use Rattle.std.specs.Option.{is_some}
use Rattle.std.proofs.lemmas.Bool.{false≢true}
use Rattle.parameter_text.specs.Cuts.{split}
use Rattle.parameter_text.specs.Dates.{three_parts}
use Rattle.parameter_text.proofs.CutLaws.{split_some}
use Rattle.parameter_text.proofs.DateLaws.{dates_pass}
use Rattle.parameter_text.proofs.dates.written_date.Goals as goal

-- four parts or more are no date
four_parts : (d m y z : List ℕ) → three_parts (d ∷ m ∷ y ∷ split 47 z) ≡ None
four_parts d m y z = let s = split_some 47 z in ap (λ (l : List (List ℕ)). three_parts (d ∷ m ∷ y ∷ l)) s.2

some_of : {X : Type 0} (o : Option X) (P : Type 0) (Q : X → Type 0) → MatchOption o P Q → is_some o ≡ true → (x : X) × Q x
some_of None P Q h e = absurd (false≢true e)
some_of (Some x) P Q h e = (x, h)

none_of : {X : Type 0} (o : Option X) (P : Type 0) (Q : X → Type 0) → MatchOption o P Q → is_some o ≡ false → P
none_of None P Q h e = h
none_of (Some x) P Q h e = absurd (false≢true (sym e))

pub returns-in_err-day : goal.returns-in_err-day
returns-in_err-day c = record { date = c.from_residual.ensures ∙ sym (ap three_parts c.in_err-day.ensures); law = dates_pass }

pub returns-in_err-month : goal.returns-in_err-month
returns-in_err-month c =
    let two = c.in_ok-day.ensures ∙ ap (λ (l : List (List ℕ)). c.in_ok-day.day.now ∷ l) c.in_err-month.ensures in
    record { date = c.from_residual-in_err-month.ensures ∙ sym (ap three_parts two); law = dates_pass }

pub returns-then-is_some : goal.returns-then-is_some
returns-then-is_some c =
    let day = c.in_ok-day.day.now in
    let month = c.in_ok-month.month.now in
    let more = some_of c.cut_at-3.result _ _ c.cut_at-3.ensures (sym c.if-is_some.ensures) in
    let all = c.in_ok-day.ensures ∙ ap (λ (l : List (List ℕ)). day ∷ l) (c.in_ok-month.ensures ∙ ap (λ (l : List (List ℕ)). month ∷ l) more.1) in
    record { date = sym (ap three_parts all ∙ four_parts day month more.0.0.now more.0.1.now); law = dates_pass }

pub returns : goal.returns
returns c =
    let day = c.in_ok-day.day.now in
    let month = c.in_ok-month.month.now in
    let last = none_of c.cut_at-3.result _ _ c.cut_at-3.ensures (sym c.if-is_some.ensures) in
    let all = c.in_ok-day.ensures ∙ ap (λ (l : List (List ℕ)). day ∷ l) (c.in_ok-month.ensures ∙ ap (λ (l : List (List ℕ)). month ∷ l) last) in
    record { date = c.written.ensures ∙ sym (ap three_parts all); law = dates_pass }
