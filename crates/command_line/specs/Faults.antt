-- What may be wrong with the options. Assumes nothing.
use Rattle.std.specs.Prelude.{Bool, cond, List, ◌++◌, length, codes, Some, None, Ok, Err, Option, Result, nat_lt}
use Rattle.command_line.specs.declared.faults.OptionFault.{OptionFault}
use Rattle.command_line.specs.declared.faults.OptionFault.TheVariants.{Unknown, Twice}
use Rattle.command_line.specs.Items.{Text, Said, of_kind, first_of}

-- an option that there is not, or one that is given twice
pub data Fault : Type 0 where
  unknown_option : Text → Fault
  option_twice : Text → Fault

-- a fault of the code, with its text by its bytes
abbrev pub fault : OptionFault → Fault
fault (Unknown option) = unknown_option option.now
fault (Twice option) = option_twice option.now

-- what is said of it
abbrev pub fault_text : OptionFault → Text
fault_text (Unknown option) = codes "unknown option " ++ option.now
fault_text (Twice option) = option.now ++ codes " is given twice"

-- no option that there is not
abbrev pub none_known : Option Text → Result (Unit {0}) Fault
none_known None = Ok tt
none_known (Some text) = Err (unknown_option text)

abbrev pub known : {K : Type 0} → (K → K → Bool) → K → List (Said K) → Result (Unit {0}) Fault
known same unknown is = none_known (first_of (of_kind same unknown is))

-- an option is given once at most
abbrev pub once : {K : Type 0} → (K → K → Bool) → K → Text → List (Said K) → Result (Unit {0}) Fault
once same k name is = cond (nat_lt 1 (length (of_kind same k is))) (Err (option_twice name)) (Ok tt)
