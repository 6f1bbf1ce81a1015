-- A line is taken and its value judged, one after the other. Assumes nothing.
use Rattle.std.proofs.Common.{◌≡◌, ℕ, ◌+◌, ◌≤◌, List, [], ◌∷◌, length, Ok, Err, Result, sym, refl, ap, ◌∙◌, subst, arith}
use Rattle.std.specs.List.{prefix_len}
use Rattle.std.proofs.lemmas.List.{length-drop}
use Rattle.parameter_text.specs.declared.terms.Question.{Question}
use Rattle.parameter_text.specs.declared.terms.Question.TheVariants.{Presence}
use Rattle.parameter_text.specs.declared.cuts.Lines.{Lines}
use Rattle.parameter_text.specs.Questions.{and_then, seen_as}
use Rattle.parameter_text.specs.Cuts.{cells, within_line, after_line}
use Rattle.parameter_text.specs.Left.{lines_left, text_left}
use Rattle.parameter_text.proofs.DigitLaws.{ok_same, ok_not_err}
use Rattle.parameter_heading.specs.declared.terms.Fault.{Fault}
use Rattle.parameter_heading.specs.Lines.{fault_at, at_line, value_after, valued_line, Judgement}
use Rattle.parameter_heading.specs.Taking.{Takes}

-- what is left of a text after its first line
pub after_shorter : (xs rest : List ℕ) → rest ≡ after_line xs → length rest ≤ length xs
after_shorter xs rest e = omega (arith, ap length e, length-drop (prefix_len within_line xs + 1) xs)

pub seen_at_line : {X Y : Type 0} (k : ℕ) (f : X → Y) (q : Result X Question) → seen_as f (at_line k q) ≡ at_line k (seen_as f q)
seen_at_line k f (Ok x) = refl
seen_at_line k f (Err q) = refl

-- what a line answers, by what it is worth and the lines left after it
abbrev pub beside : {X : Type 0} → List (List ℕ) → X → X × List (List ℕ)
beside ls x = (x, ls)

abbrev pub answer : {X : Type 0} → ℕ → List (List ℕ) → Result X Question → Result (X × List (List ℕ)) Fault
answer k ls q = at_line k (seen_as (beside ls) q)

then_seen : {X Y : Type 0} (f : X → Y) (q : Result X Question) → and_then q (λ x. Ok (f x)) ≡ seen_as f q
then_seen f (Ok x) = refl
then_seen f (Err q) = refl

same_fault : {X Y : Type 0} (e f : Fault) → ◌≡◌ {A = Result X Fault} (Err e) (Err f) → ◌≡◌ {A = Result Y Fault} (Err e) (Err f)
same_fault e f h = let s : e ≡ f = cc in ap Err s

takes_answer : {X : Type 0} (judged : List (List ℕ) → Result (X × List (List ℕ)) Fault) (k : ℕ) (before after : Lines) (q : Result X Question) → judged (lines_left before) ≡ answer k (lines_left after) q → length (text_left after) ≤ length (text_left before) → Takes judged before (at_line k q) after
takes_answer judged k before after (Ok x) e h = (e, h)
takes_answer judged k before after (Err q) e h = e

module _ {X : Type 0} (k : ℕ) (name : List ℕ) (judge : Judgement X) where
  -- the first line left
  pub valued_first : (l : List ℕ) (ls : List (List ℕ)) → valued_line k name judge (l ∷ ls) ≡ answer k ls (and_then (value_after name (cells l)) judge)
  valued_first l ls = ap (at_line k) (then_seen (beside ls) (and_then (value_after name (cells l)) judge))

  value_on : (r : Result (List ℕ) Question) (ls rest : List (List ℕ)) (v : List ℕ) → answer k ls (and_then r Ok) ≡ Ok (v, rest) → answer k ls (and_then r judge) ≡ answer k rest (judge v)
  value_on (Ok u) ls rest v h = let p : ◌≡◌ {A = List ℕ × List (List ℕ)} (u, ls) (v, rest) = ok_same _ _ h in ap (λ (q : List ℕ × List (List ℕ)). answer k q.1 (judge q.0)) p
  value_on (Err q) ls rest v h = absurd (ok_not_err _ _ h)

  fault_on : (r : Result (List ℕ) Question) (ls : List (List ℕ)) (f : Fault) → answer k ls (and_then r Ok) ≡ Err f → answer k ls (and_then r judge) ≡ Err f
  fault_on (Ok u) ls f h = absurd (ok_not_err _ _ (sym h))
  fault_on (Err q) ls f h = same_fault (fault_at k q) f h

pub value_first : (k : ℕ) (name l : List ℕ) (ls : List (List ℕ)) → valued_line k name Ok (l ∷ ls) ≡ answer k ls (and_then (value_after name (cells l)) Ok)
value_first k name l ls = valued_first k name Ok l ls

module _ {X : Type 0} (k : ℕ) (name : List ℕ) (judge : Judgement X) where
  -- a line that has its name and one value is worth what the value is
  judged_on : (ls rest : List (List ℕ)) (v : List ℕ) → valued_line k name Ok ls ≡ Ok (v, rest) → valued_line k name judge ls ≡ answer k rest (judge v)
  judged_on [] rest v h = absurd (ok_not_err _ _ h)
  judged_on (l ∷ ls) rest v h = valued_first k name judge l ls ∙ value_on k name judge (value_after name (cells l)) ls rest v (sym (value_first k name l ls) ∙ h)

  -- any other line fails as it does before its value is judged
  pub faulty : (ls : List (List ℕ)) (f : Fault) → valued_line k name Ok ls ≡ Err f → valued_line k name judge ls ≡ Err f
  faulty [] f h = same_fault (fault_at k Presence) f h
  faulty (l ∷ ls) f h = valued_first k name judge l ls ∙ fault_on k name judge (value_after name (cells l)) ls f (sym (value_first k name l ls) ∙ h)

  pub taken : (before after : Lines) (v : List ℕ) (r : Result X Fault) → Takes (valued_line k name Ok) before (Ok v) after → r ≡ at_line k (judge v) → Takes (valued_line k name judge) before r after
  taken before after v r t e = subst (λ (x : Result X Fault). Takes (valued_line k name judge) before x after) (sym e) (takes_answer (valued_line k name judge) k before after (judge v) (judged_on (lines_left before) (lines_left after) v t.0) t.1)

and_then_ok : (r : Result (List ℕ) Question) → and_then r Ok ≡ r
and_then_ok (Ok v) = refl
and_then_ok (Err q) = refl

-- the value of the next line
pub taken_value : (k : ℕ) (name line : List ℕ) (before after : Lines) (q : Result (List ℕ) Question) → lines_left before ≡ line ∷ lines_left after → text_left after ≡ after_line (text_left before) → q ≡ value_after name (cells line) → Takes (valued_line k name Ok) before (at_line k q) after
taken_value k name line before after q e t s =
    let said : valued_line k name Ok (lines_left before) ≡ answer k (lines_left after) q = ap (valued_line k name Ok) e ∙ value_first k name line (lines_left after) ∙ ap (answer k (lines_left after)) (and_then_ok (value_after name (cells line)) ∙ sym s) in
    takes_answer (valued_line k name Ok) k before after q said (after_shorter (text_left before) (text_left after) t)
