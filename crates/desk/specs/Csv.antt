-- What `--csv` prints, byte by byte; the last line end is the caller's. Assumes nothing.
use Rattle.std.specs.Prelude.{ℕ, List, ◌++◌, codes, decimal}
use Rattle.parameter_text.specs.Questions.{question_number}
use Rattle.return_source.specs.declared.terms.Parameters.{Parameters}
use Rattle.parameter_heading.specs.declared.terms.Fault.{Fault}
use Rattle.parameter_file.specs.declared.terms.Summary.{Summary}
use Rattle.figures.specs.Figures.{pointed, iso_date}

-- the weight, the number of scenarios and the tail count of each set
abbrev pub scenario_lines : Parameters → List ℕ
scenario_lines p =
    codes "hvar_weight," ++ (pointed 4 p.historical.weight.ten_thousandths ++ (
    codes "\nsvar_weight," ++ (pointed 4 p.stress.weight.ten_thousandths ++ (
    codes "\nhvar_scenarios," ++ (decimal p.historical.count ++ (
    codes "\nsvar_scenarios," ++ (decimal p.stress.count ++ (
    codes "\nhvar_tail," ++ (decimal p.historical.tail ++ (
    codes "\nsvar_tail," ++ decimal p.stress.tail))))))))))

-- how many stocks are in each tier, and how many entitlements there are
abbrev pub stock_lines : Summary → List ℕ
stock_lines s =
    codes "portfolio_stocks," ++ (decimal s.portfolio_stocks ++ (
    codes "\nflat_stocks," ++ (decimal s.flat_stocks ++ (
    codes "\nentitlements," ++ decimal s.entitlements))))

-- a file that passes
abbrev pub summary_lines : Summary → List ℕ
summary_lines s =
    codes "checked\nvaluation_date," ++ (iso_date s.heading.date ++ (
    codes "\n" ++ (scenario_lines s.heading.parameters ++ (
    codes "\nstep," ++ (decimal s.heading.parameters.step ++ (
    codes "\nholiday_factor," ++ (pointed 10 s.heading.parameters.holiday_factor ++ (
    codes "\n" ++ stock_lines s))))))))

-- a file that is refused
abbrev pub fault_line : Fault → List ℕ
fault_line x = codes "refused," ++ (decimal (question_number x.question) ++ (codes "," ++ decimal x.line))
