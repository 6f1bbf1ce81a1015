-- Which words make which request: at most one file, `--csv` and `--help` at most once each, anywhere, and no other word
-- that begins with a dash. Assumes nothing.
use Rattle.std.specs.Prelude.{ℕ, Bool, cond, not, ◌&&◌, ◌||◌, List, [], ◌∷◌, length, Some, None, Ok, Err, codes, filter, Option, Result, ◌==◌, nat_lt}
use Rattle.std.specs.Result.{result_map_both}
use Rattle.std.specs.Str.{bytes_eq}
use Rattle.parameter_text.specs.Questions.{and_then}
use Rattle.command_line.specs.Items.{Said, of_kind as items_of, first_of as first_item}
use Rattle.command_line.specs.Faults.{Fault, unknown_option as unknown, option_twice as twice, fault, fault_text, known as known_options, once}
pub use Rattle.command_line.specs.Items.{Text, texts, dashed}
use Rattle.figures.specs.declared.form.Form.{Form}
use Rattle.figures.specs.declared.form.Form.TheVariants.{Report, Csv}
use Rattle.desk.specs.declared.arguments.Kind.{Kind}
use Rattle.desk.specs.declared.arguments.Kind.TheVariants as kind
use Rattle.desk.specs.contracts.arguments.KindPartialEq.TheImpl as derived
use Rattle.desk.specs.declared.arguments.Request.{Request}
use Rattle.desk.specs.declared.arguments.Request.TheVariants.{Help, Check}
use Rattle.desk.specs.declared.arguments.UsageError.{UsageError}
use Rattle.desk.specs.declared.arguments.UsageError.TheVariants.{Options, TwoFiles, NoFile}

-- one of the two options that there are
abbrev pub known : Text → Bool
known w = bytes_eq w (codes "--csv") || bytes_eq w (codes "--help")

-- whether a word is of a kind: one of the two options, another option, or a file
abbrev pub is_of : Kind → Text → Bool
is_of kind.Csv w = bytes_eq w (codes "--csv")
is_of kind.Help w = bytes_eq w (codes "--help")
is_of kind.Unknown w = dashed w && not (known w)
is_of kind.File w = not (dashed w)

-- what a word is
abbrev pub kind_of : Text → Kind
kind_of w = cond (bytes_eq w (codes "--csv")) kind.Csv (cond (bytes_eq w (codes "--help")) kind.Help (cond (dashed w) kind.Unknown kind.File))

-- the words of a kind, in their order
abbrev pub of_kind : Kind → List Text → List Text
of_kind k words = filter (is_of k) words

-- the first of some words
abbrev pub first_of : List Text → Option Text
first_of [] = None
first_of (w ∷ ws) = Some w

-- what the words ask for
pub data Asked : Type 0 where
  help : Asked
  check : Form → Text → Asked

-- the faults, in the order in which they are told
pub data Wrong : Type 0 where
  unknown_option : Text → Wrong
  option_twice : Text → Wrong
  two_files : Wrong
  no_file : Wrong

-- a file, under --csv or not
abbrev pub checked_by : ℕ → List Text → Result Asked Wrong
checked_by csv [] = Err no_file
checked_by csv (file ∷ files) = Ok (check (cond (csv == 1) Csv Report) file)

-- from the unknown options, how often --csv and --help are given, and the files
abbrev pub asked_by : List Text → ℕ → ℕ → List Text → Result Asked Wrong
asked_by (option ∷ options) csv helps files = Err (unknown_option option)
asked_by [] csv helps files =
    cond (nat_lt 1 csv) (Err (option_twice (codes "--csv")))
    (cond (nat_lt 1 helps) (Err (option_twice (codes "--help")))
    (cond (nat_lt 1 (length files)) (Err two_files)
    (cond (helps == 1) (Ok help) (checked_by csv files))))

-- the request that the words make
abbrev pub request_of : List Text → Result Asked Wrong
request_of words = asked_by (of_kind kind.Unknown words) (length (of_kind kind.Csv words)) (length (of_kind kind.Help words)) (of_kind kind.File words)

-- ---- the same request, from the items that the words make

-- two kinds are one
abbrev pub same : Kind → Kind → Bool
same = (derived.ghosts).eq

-- what may be wrong with the options of any program, as a fault of this one
abbrev pub options : Fault → Wrong
options (unknown text) = unknown_option text
options (twice text) = option_twice text

abbrev pub told_options : Result (Unit {0}) Fault → Result (Unit {0}) Wrong
told_options r = result_map_both (λ u. u) options r

-- a file, under --csv or not
abbrev pub checked_item : ℕ → Option Text → Result Asked Wrong
checked_item csv None = Err no_file
checked_item csv (Some file) = Ok (check (cond (csv == 1) Csv Report) file)

abbrev pub request_of_items : List (Said Kind) → Result Asked Wrong
request_of_items is =
    and_then (told_options (known_options same kind.Unknown is)) (λ _.
    and_then (told_options (once same kind.Csv (codes "--csv") is)) (λ _.
    and_then (told_options (once same kind.Help (codes "--help") is)) (λ _.
    cond (nat_lt 1 (length (items_of same kind.File is))) (Err two_files)
    (cond (length (items_of same kind.Help is) == 1) (Ok help)
    (checked_item (length (items_of same kind.Csv is)) (first_item (items_of same kind.File is)))))))

-- an answer of the code, with each text by its bytes
abbrev pub told : Result Request UsageError → Result Asked Wrong
told (Ok Help) = Ok help
told (Ok (Check form path)) = Ok (check form path.now)
told (Err (Options faulty)) = Err (options (fault faulty))
told (Err TwoFiles) = Err two_files
told (Err NoFile) = Err no_file

-- what is said of words that make no request
abbrev pub usage_text : UsageError → Text
usage_text (Options faulty) = fault_text faulty
usage_text TwoFiles = codes "more than one file is given"
usage_text NoFile = codes "no file is given"
