-- What each word of the command line is. Assumes nothing.
use Rattle.std.specs.Prelude.{ℕ, Bool, true, false, cond, codes, Some, None, Option, ◌==◌}
use Rattle.std.specs.Str.{bytes_eq}
pub use Rattle.command_line.specs.Items.{Text, texts, dashed}
use Rattle.margin_desk.specs.declared.kinds.Kind.{Kind}
use Rattle.margin_desk.specs.declared.kinds.Kind.TheVariants.{Csv, Trace, Help, Rpf, Fallback, Settings, Places, Holdings, Lacking, Unknown, Journal}

abbrev pub kind_number : Kind → ℕ
kind_number Csv = 0
kind_number Trace = 1
kind_number Help = 2
kind_number Rpf = 3
kind_number Fallback = 4
kind_number Settings = 5
kind_number Places = 6
kind_number Holdings = 7
kind_number Lacking = 8
kind_number Unknown = 9
kind_number Journal = 10

-- two kinds are one
abbrev pub same_kind : Kind → Kind → Bool
same_kind k j = kind_number k == kind_number j

-- the options behind which a value stands
abbrev pub takes_value : Kind → Bool
takes_value Csv = false
takes_value Trace = false
takes_value Help = false
takes_value Rpf = true
takes_value Fallback = true
takes_value Settings = true
takes_value Places = true
takes_value Holdings = true
takes_value Lacking = false
takes_value Unknown = false
takes_value Journal = false

-- what such an option is as the last word
abbrev pub lacking : Kind → Option Kind
lacking k = cond (takes_value k) (Some Lacking) None

-- the options without a value
unfoldable pub flag_of : Text → Option Kind
flag_of w =
    cond (bytes_eq w (codes "--csv")) (Some Csv)
    (cond (bytes_eq w (codes "--trace")) (Some Trace)
    (cond (bytes_eq w (codes "--help")) (Some Help) None))

-- the options with a value
unfoldable pub option_of : Text → Option Kind
option_of w =
    cond (bytes_eq w (codes "--rpf")) (Some Rpf)
    (cond (bytes_eq w (codes "--fallback")) (Some Fallback)
    (cond (bytes_eq w (codes "--settings")) (Some Settings)
    (cond (bytes_eq w (codes "--places")) (Some Places)
    (cond (bytes_eq w (codes "--holdings")) (Some Holdings) None))))

abbrev pub first_known : Option Kind → Option Kind → Kind → Kind
first_known (Some k) o j = k
first_known None (Some k) j = k
first_known None None j = j

-- what a word is, where it is not the value of an option: another word with a dash is an unknown option, and one without a dash
-- the name of a journal
unfoldable pub kind_of : Text → Kind
kind_of w = first_known (flag_of w) (option_of w) (cond (dashed w) Unknown Journal)
