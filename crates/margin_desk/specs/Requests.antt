-- Which words make which request. Options may stand anywhere, each once at most; of --rpf and --fallback just one is given, --settings
-- is, and at least one journal. Assumes nothing.
use Rattle.std.specs.Prelude.{ℕ, Bool, cond, List, length, codes, Some, None, Ok, Err, Option, Result, ◌==◌}
use Rattle.parameter_text.specs.Questions.{and_then}
use Rattle.margin_files.specs.Numbers.{rate_of, count_of}
use Rattle.figures.specs.declared.form.Form.{Form}
use Rattle.figures.specs.declared.form.Form.TheVariants.{Report, Csv as CsvForm}
use Rattle.std.specs.Result.{result_map_both}
use Rattle.command_line.specs.Faults.{Fault, unknown_option as unknown, option_twice as twice, fault, known, once as once_given}
use Rattle.margin_desk.specs.declared.kinds.Kind.{Kind}
use Rattle.margin_desk.specs.declared.kinds.Kind.TheVariants.{Csv, Trace, Help, Rpf, Fallback, Settings, Places, Holdings, Lacking, Unknown, Journal}
use Rattle.margin_desk.specs.declared.words.UsageError.{UsageError}
use Rattle.margin_desk.specs.declared.words.UsageError.TheVariants.{Options, NoValue, TwoSources, NoSource, NoSettings, NoJournal, NoRate, NoPlaces, NoHoldings}
use Rattle.margin_desk.specs.declared.arguments.Source.{Source}
use Rattle.margin_desk.specs.declared.arguments.Source.TheVariants.{File, Rate}
use Rattle.margin_desk.specs.declared.arguments.MarginCall.{MarginCall}
use Rattle.margin_desk.specs.declared.arguments.Request.{Request}
use Rattle.margin_desk.specs.declared.arguments.Request.TheVariants.{Help as HelpRequest, Call}
use Rattle.margin_desk.specs.Words.{Text, same_kind}
use Rattle.margin_desk.specs.Items.{Said, items, of_kind, first_of, journals_in, journals_left}

-- where returns and rates come from: a file, or a rate in ten-thousandths
pub data FromWhere : Type 0 where
  from_file : Text → FromWhere
  from_rate : ℕ → FromWhere

-- a margin call as it is asked for
pub record Wanted : Type 0 where
  pub form : Form
  pub trace : Bool
  pub source : FromWhere
  pub settings : Text
  pub places : ℕ
  pub holdings : ℕ
  pub journals : List Text

-- what the words ask for
pub data Asked : Type 0 where
  help : Asked
  call : Wanted → Asked

-- the faults, in the order in which they are told
pub data Wrong : Type 0 where
  unknown_option : Text → Wrong
  no_value : Text → Wrong
  option_twice : Text → Wrong
  two_sources : Wrong
  no_source : Wrong
  no_settings : Wrong
  no_journal : Wrong
  no_rate : Text → Wrong
  no_places : Text → Wrong
  no_holdings : Text → Wrong

-- answers of the code, with each text by its bytes

-- what may be wrong with the options of any program, as a fault of this one
abbrev pub options : Fault → Wrong
options (unknown text) = unknown_option text
options (twice text) = option_twice text

abbrev pub told_options : Result (Unit {0}) Fault → Result (Unit {0}) Wrong
told_options r = result_map_both (λ u. u) options r

abbrev pub wrong : UsageError → Wrong
wrong (Options faulty) = options (fault faulty)
wrong (NoValue option) = no_value option.now
wrong TwoSources = two_sources
wrong NoSource = no_source
wrong NoSettings = no_settings
wrong NoJournal = no_journal
wrong (NoRate text) = no_rate text.now
wrong (NoPlaces text) = no_places text.now
wrong (NoHoldings text) = no_holdings text.now

abbrev pub told_source : Source → FromWhere
told_source (File path) = from_file path.now
told_source (Rate rate) = from_rate rate

abbrev pub told_call : MarginCall → Wanted
told_call m = record {
  form = m.form;
  trace = m.trace;
  source = told_source m.source;
  settings = m.settings.now;
  places = m.places;
  holdings = m.holdings;
  journals = journals_left m.journals;
}

abbrev pub told : Request → Asked
told HelpRequest = help
told (Call m) = call (told_call m)

-- no option that there is not, and none that lacks its value

abbrev pub fault_of : (Text → Wrong) → Option Text → Result (Unit {0}) Wrong
fault_of f None = Ok tt
fault_of f (Some text) = Err (f text)

unfoldable pub unknown_fault : List Said → Result (Unit {0}) Wrong
unknown_fault is = and_then (told_options (known same_kind Unknown is)) (λ _. fault_of no_value (first_of (of_kind Lacking is)))

-- an option is given once at most
unfoldable pub once : Kind → Text → List Said → Result (Unit {0}) Wrong
once k name is = told_options (once_given same_kind k name is)

unfoldable pub flags_once : List Said → Result (Unit {0}) Wrong
flags_once is = and_then (once Csv (codes "--csv") is) (λ _. and_then (once Trace (codes "--trace") is) (λ _. once Help (codes "--help") is))

unfoldable pub sources_once : List Said → Result (Unit {0}) Wrong
sources_once is = and_then (once Rpf (codes "--rpf") is) (λ _. and_then (once Fallback (codes "--fallback") is) (λ _. once Settings (codes "--settings") is))

unfoldable pub lists_once : List Said → Result (Unit {0}) Wrong
lists_once is = and_then (once Places (codes "--places") is) (λ _. once Holdings (codes "--holdings") is)

unfoldable pub words_fault : List Said → Result (Unit {0}) Wrong
words_fault is = and_then (unknown_fault is) (λ _. and_then (flags_once is) (λ _. and_then (sources_once is) (λ _. lists_once is)))

-- what the options say

abbrev pub rated : Text → Option ℕ → Result FromWhere Wrong
rated text None = Err (no_rate text)
rated text (Some rate) = Ok (from_rate rate)

abbrev pub one_source : Option Text → Option Text → Result FromWhere Wrong
one_source (Some path) None = Ok (from_file path)
one_source None (Some text) = rated text (rate_of text)
one_source (Some path) (Some text) = Err two_sources
one_source None None = Err no_source

unfoldable pub source_of : List Said → Result FromWhere Wrong
source_of is = one_source (first_of (of_kind Rpf is)) (first_of (of_kind Fallback is))

abbrev pub or_wrong : {X : Type 0} → Wrong → Option X → Result X Wrong
or_wrong w None = Err w
or_wrong w (Some x) = Ok x

unfoldable pub settings_of : List Said → Result Text Wrong
settings_of is = or_wrong no_settings (first_of (of_kind Settings is))

-- the count that an option says, or the usual one
abbrev pub count_or : ℕ → (Text → Wrong) → Option Text → Result ℕ Wrong
count_or usual f None = Ok usual
count_or usual f (Some text) = or_wrong (f text) (count_of text)

unfoldable pub places_of : List Said → Result ℕ Wrong
places_of is = count_or 4096 no_places (first_of (of_kind Places is))

unfoldable pub holdings_of : List Said → Result ℕ Wrong
holdings_of is = count_or 10 no_holdings (first_of (of_kind Holdings is))

abbrev pub journals_or : List Said → Option Text → Result (List Text) Wrong
journals_or is None = Err no_journal
journals_or is (Some name) = Ok (journals_in is)

unfoldable pub some_journals : List Said → Result (List Text) Wrong
some_journals is = journals_or is (first_of (of_kind Journal is))

-- is an option without a value given?
abbrev pub given : Kind → List Said → Bool
given k is = length (of_kind k is) == 1

unfoldable pub form_of : List Said → Form
form_of is = cond (given Csv is) CsvForm Report

-- the margin call that is asked for
unfoldable pub call_of : List Said → Result Wanted Wrong
call_of is =
    and_then (source_of is) (λ source.
    and_then (settings_of is) (λ settings.
    and_then (some_journals is) (λ journals.
    and_then (places_of is) (λ places.
    and_then (holdings_of is) (λ holdings.
    Ok (record { form = form_of is; trace = given Trace is; source = source; settings = settings; places = places; holdings = holdings; journals = journals }))))))

abbrev pub asked_call : Result Wanted Wrong → Result Asked Wrong
asked_call (Ok w) = Ok (call w)
asked_call (Err e) = Err e

-- the request that the words make
abbrev pub request_of : List Text → Result Asked Wrong
request_of ws = and_then (words_fault (items ws)) (λ _. cond (given Help (items ws)) (Ok help) (asked_call (call_of (items ws))))
