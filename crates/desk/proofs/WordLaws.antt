-- The items of a kind are the words of that kind. Assumes nothing.
use Rattle.std.proofs.Common.{◌≡◌, ℕ, Bool, true, false, cond, not, ◌&&◌, ◌||◌, nat_lt, nat_eq, List, [], ◌∷◌, length, map, refl, sym, ap, ◌∙◌, None, Ok, Err, Result, codes}
use Rattle.std.specs.Str.{bytes_eq}
use Rattle.std.proofs.lemmas.List.{length-map}
use Rattle.std.proofs.lemmas.Slice.Eq.{bytes_eq-Decides}
use Rattle.parameter_text.specs.Questions.{and_then}
use Rattle.command_line.specs.Items.{Said, items, texts_of, of_kind as items_of, first_of as first_item}
use Rattle.command_line.specs.Faults.{option_twice as twice}
use Rattle.desk.specs.declared.arguments.Kind.{Kind}
use Rattle.desk.specs.declared.arguments.Kind.TheVariants as kind
use Rattle.desk.specs.Arguments.{Text, Asked, Wrong, help, two_files, option_twice, same, kind_of, is_of, of_kind, dashed, told_options, checked_item, checked_by, asked_by, request_of_items, request_of}

-- ---- what a word is

abbrev picked : Bool → Bool → Bool → Kind
picked csv helped dash = cond csv kind.Csv (cond helped kind.Help (cond dash kind.Unknown kind.File))

csv_is : (csv helped dash : Bool) → same (picked csv helped dash) kind.Csv ≡ csv
csv_is true helped dash = refl
csv_is false true dash = refl
csv_is false false true = refl
csv_is false false false = refl

help_is : (csv helped dash : Bool) → (csv ≡ true → helped ≡ false) → same (picked csv helped dash) kind.Help ≡ helped
help_is true helped dash h = sym (h refl)
help_is false true dash h = refl
help_is false false true h = refl
help_is false false false h = refl

unknown_is : (csv helped dash : Bool) → same (picked csv helped dash) kind.Unknown ≡ (dash && not (csv || helped))
unknown_is true helped true = refl
unknown_is true helped false = refl
unknown_is false true true = refl
unknown_is false true false = refl
unknown_is false false true = refl
unknown_is false false false = refl

file_is : (csv helped dash : Bool) → (csv ≡ true → dash ≡ true) → (helped ≡ true → dash ≡ true) → same (picked csv helped dash) kind.File ≡ not dash
file_is true helped dash h i = rw (h refl) refl
file_is false true dash h i = rw (i refl) refl
file_is false false true h i = refl
file_is false false false h i = refl

-- what is known of a word holds of each word of its bytes
of_text : (w t : Text) (f : Text → Bool) → bytes_eq w t ≡ true → f w ≡ f t
of_text w t f e = ap f ((bytes_eq-Decides w t).0 e)

kind_is : (k : Kind) (w : Text) → same (kind_of w) k ≡ is_of k w
kind_is kind.Csv w = csv_is (bytes_eq w (codes "--csv")) (bytes_eq w (codes "--help")) (dashed w)
kind_is kind.Help w = help_is (bytes_eq w (codes "--csv")) (bytes_eq w (codes "--help")) (dashed w) (of_text w (codes "--csv") (λ t. bytes_eq t (codes "--help")))
kind_is kind.Unknown w = unknown_is (bytes_eq w (codes "--csv")) (bytes_eq w (codes "--help")) (dashed w)
kind_is kind.File w = file_is (bytes_eq w (codes "--csv")) (bytes_eq w (codes "--help")) (dashed w) (of_text w (codes "--csv") dashed) (of_text w (codes "--help") dashed)

-- ---- the items of a kind

one_more : (b : Bool) (i : Said Kind) (is : List (Said Kind)) (ws : List Text) → map (λ j. j.text) is ≡ ws → map (λ j. j.text) (cond b (i ∷ is) is) ≡ cond b (i.text ∷ ws) ws
one_more true i is ws e = ap (λ us. i.text ∷ us) e
one_more false i is ws e = e

texts_are : (k : Kind) (ws : List Text) → texts_of same k (items kind_of (λ _. None) ws) ≡ of_kind k ws
texts_are k [] = refl
texts_are k (w ∷ []) = rw (← kind_is k w) (one_more (same (kind_of w) k) _ [] [] refl)
texts_are k (w ∷ v ∷ ws) = rw (← kind_is k w) (one_more (same (kind_of w) k) _ _ _ (texts_are k (v ∷ ws)))

count_is : (k : Kind) (ws : List Text) → length (items_of same k (items kind_of (λ _. None) ws)) ≡ length (of_kind k ws)
count_is k ws = sym (length-map (items_of same k (items kind_of (λ _. None) ws)) (λ i. i.text)) ∙ ap length (texts_are k ws)

-- ---- the request

once_more : (b : Bool) (t : Text) (f : Unit {0} → Result Asked Wrong) → and_then (told_options (cond b (Err (twice t)) (Ok tt))) f ≡ cond b (Err (option_twice t)) (f tt)
once_more true t f = refl
once_more false t f = refl

checked_file : (csv : ℕ) (fs : List (Said Kind)) → checked_item csv (first_item fs) ≡ checked_by csv (map (λ i. i.text) fs)
checked_file csv [] = refl
checked_file csv (f ∷ fs) = refl

abbrev files_asked : ℕ → ℕ → List (Said Kind) → Result Asked Wrong
files_asked csv helps fs = cond (nat_lt 1 (length fs)) (Err two_files) (cond (nat_eq helps 1) (Ok help) (checked_item csv (first_item fs)))

asked_items : (is us fs : List (Said Kind)) (csv helps : ℕ) → us ≡ items_of same kind.Unknown is → csv ≡ length (items_of same kind.Csv is) → helps ≡ length (items_of same kind.Help is) → fs ≡ items_of same kind.File is
    → request_of_items is ≡ asked_by (map (λ i. i.text) us) csv helps (map (λ i. i.text) fs)
asked_items is [] fs csv helps u c h f = rw (← u, ← c, ← h, ← f) (once_more (nat_lt 1 csv) _ _ ∙ ap (cond (nat_lt 1 csv) _) (once_more (nat_lt 1 helps) _ _ ∙ ap (cond (nat_lt 1 helps) _) (rw (checked_file csv fs, length-map) refl)))
asked_items is (u ∷ us) fs csv helps e c h f = rw (← e) refl

pub request_from_items : (ws : List Text) → request_of_items (items kind_of (λ _. None) ws) ≡ request_of ws
request_from_items ws =
    let is = items kind_of (λ _. None) ws in
    let unknown = texts_are kind.Unknown ws in
    let files = texts_are kind.File ws in
    let csv = count_is kind.Csv ws in
    let helps = count_is kind.Help ws in
    let asked = asked_items is (items_of same kind.Unknown is) (items_of same kind.File is) (length (items_of same kind.Csv is)) (length (items_of same kind.Help is)) refl refl refl refl in
    cc
