-- What is said of refused calls. Assumes nothing.
use Rattle.std.specs.Prelude.{ℕ, List, ◌++◌, codes, decimal}
use Rattle.fallback_source.specs.declared.terms.RateRefusal.{RateRefusal}
use Rattle.fallback_source.specs.declared.terms.RateRefusal.TheVariants as rate
use Rattle.fallback_source.specs.Refusals.{refusal_number}
use Rattle.ledger.specs.declared.terms.Kind.{Kind}
use Rattle.ledger.specs.declared.terms.Kind.TheVariants.{Stock, Dsp, Sri, Div}
use Rattle.ledger.specs.Kinds.{kind_number}
use Rattle.ledger.specs.declared.terms.OpeningRefusal.{OpeningRefusal}
use Rattle.ledger.specs.declared.terms.OpeningRefusal.TheVariants.{Table, Settings}
use Rattle.ledger.specs.declared.terms.EntryRefusal.{EntryRefusal}
use Rattle.ledger.specs.declared.terms.EntryRefusal.TheVariants.{Number, Instrument, Size, Cancelled, Posted, Full}
use Rattle.ledger.specs.Refusals.{opening_number}
use Rattle.margin_rules.specs.declared.terms.AssessmentRefusal.{AssessmentRefusal}
use Rattle.margin_rules.specs.declared.terms.AssessmentRefusal.TheVariants.{Sheets, Uncovered, GrossMarketValue, Margin}
use Rattle.margin_desk.specs.declared.refusals.Refused.{Refused}
use Rattle.margin_desk.specs.declared.refusals.Refused.TheVariants.{Rate, Opening, Assessment}

-- what each refusal means, for people

abbrev pub rate_meaning : RateRefusal → List ℕ
rate_meaning rate.Rate = codes "the rate is not 0.06 to 1"

abbrev pub opening_meaning : OpeningRefusal → List ℕ
opening_meaning Table = codes "the table has no place, or more than 4,096"
opening_meaning Settings = codes "a setting is out of range"

abbrev pub entry_meaning : EntryRefusal → List ℕ
entry_meaning Number = codes "the number is not 1 to 999,999,999"
entry_meaning Instrument = codes "the kind is not 0 to 3, or the stock not 1 to 99,999"
entry_meaning Size = codes "a size is above 20,000,000,000"
entry_meaning Cancelled = codes "the number is already cancelled"
entry_meaning Posted = codes "the number is already posted"
entry_meaning Full = codes "the table has no free place"

-- what a live instrument of a kind lacks
abbrev pub lacking_of : Kind → List ℕ
lacking_of Stock = codes "tier"
lacking_of Dsp = codes "DSP entitlement"
lacking_of Sri = codes "SRI entitlement"
lacking_of Div = codes "DIV entitlement"

-- a refusal that carries nothing but its number
abbrev pub refused_alone : ℕ → List ℕ
refused_alone question = codes "refused," ++ decimal question

abbrev pub assessment_line : AssessmentRefusal → List ℕ
assessment_line Sheets = refused_alone 30
assessment_line (Uncovered kind stock) = codes "refused," ++ (decimal 31 ++ (codes "," ++ (decimal (kind_number kind) ++ (codes "," ++ decimal stock))))
assessment_line GrossMarketValue = refused_alone 32
assessment_line Margin = refused_alone 33

abbrev pub assessment_report : AssessmentRefusal → List ℕ
assessment_report Sheets = codes "question 30: a sheet is too short, or the list of holdings has more than 64 places"
assessment_report (Uncovered kind stock) = codes "question 31: stock " ++ (decimal stock ++ (codes " has no " ++ lacking_of kind))
assessment_report GrossMarketValue = codes "question 32: gross market value is above 20,000,000,000"
assessment_report Margin = codes "question 33: portfolio and flat-rate margin together are above 900,000,000"

-- a refused call, for scripts
abbrev pub refused_line : Refused → List ℕ
refused_line (Rate r) = refused_alone (refusal_number r)
refused_line (Opening r) = refused_alone (opening_number r)
refused_line (Assessment r) = assessment_line r

abbrev pub questioned : ℕ → List ℕ → List ℕ
questioned question meaning = codes "question " ++ (decimal question ++ (codes ": " ++ meaning))

-- and for people
abbrev pub refused_report : Refused → List ℕ
refused_report (Rate r) = questioned (refusal_number r) (rate_meaning r)
refused_report (Opening r) = questioned (opening_number r) (opening_meaning r)
refused_report (Assessment r) = assessment_report r
