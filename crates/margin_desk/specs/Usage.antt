-- What is said of words that make no request. Assumes nothing.
use Rattle.std.specs.Prelude.{ℕ, List, ◌++◌, codes}
use Rattle.command_line.specs.Faults.{fault_text}
use Rattle.margin_desk.specs.declared.words.UsageError.{UsageError}
use Rattle.margin_desk.specs.declared.words.UsageError.TheVariants.{Options, NoValue, TwoSources, NoSource, NoSettings, NoJournal, NoRate, NoPlaces, NoHoldings}

abbrev pub usage_text : UsageError → List ℕ
usage_text (Options faulty) = fault_text faulty
usage_text (NoValue option) = option.now ++ codes " has no value"
usage_text TwoSources = codes "--rpf and --fallback are both given"
usage_text NoSource = codes "neither --rpf nor --fallback is given"
usage_text NoSettings = codes "--settings is not given"
usage_text NoJournal = codes "no journal is given"
usage_text (NoRate text) = codes "--fallback takes a decimal of at most four places, not " ++ text.now
usage_text (NoPlaces text) = codes "--places takes digits, not " ++ text.now
usage_text (NoHoldings text) = codes "--holdings takes digits, not " ++ text.now
