-- What is printed for people, byte by byte; the last line end is the caller's. Assumes nothing.
use Rattle.std.specs.Prelude.{ℕ, List, ◌++◌, codes, decimal}
use Rattle.parameter_text.specs.Questions.{question_number}
use Rattle.parameter_text.specs.declared.terms.Question.{Question}
use Rattle.parameter_text.specs.declared.terms.Question.TheVariants.{Length, Presence, Name, Cells, Form, Range, First, Tier}
use Rattle.return_source.specs.declared.terms.Parameters.{Parameters}
use Rattle.parameter_heading.specs.declared.terms.Fault.{Fault}
use Rattle.parameter_file.specs.declared.terms.Summary.{Summary}
use Rattle.figures.specs.Figures.{pointed, iso_date}
use Rattle.figures.specs.Columns.{right, count_cell}

-- a text at the right of a column of fourteen places
abbrev pub column : List ℕ → List ℕ
column text = right 14 text

-- the weight, the number of scenarios and the tail count of each set
abbrev pub scenario_rows : Parameters → List ℕ
scenario_rows p =
    codes "                      historical        stress\nWeight            " ++ (column (pointed 4 p.historical.weight.ten_thousandths) ++ (column (pointed 4 p.stress.weight.ten_thousandths) ++ (
    codes "\nScenarios         " ++ (count_cell p.historical.count ++ (count_cell p.stress.count ++ (
    codes "\nTail              " ++ (count_cell p.historical.tail ++ count_cell p.stress.tail)))))))

-- how many stocks are in each tier, and how many entitlements there are
abbrev pub stock_rows : Summary → List ℕ
stock_rows s =
    codes "Portfolio stocks  " ++ (count_cell s.portfolio_stocks ++ (
    codes "\nFlat-rate stocks  " ++ (count_cell s.flat_stocks ++ (
    codes "\nEntitlements      " ++ count_cell s.entitlements))))

-- a file that passes
abbrev pub summary_report : Summary → List ℕ
summary_report s =
    codes "The file passes.\n\nValuation date    " ++ (column (iso_date s.heading.date) ++ (
    codes "\n\n" ++ (scenario_rows s.heading.parameters ++ (
    codes "\n\nStep in dollars   " ++ (count_cell s.heading.parameters.step ++ (
    codes "\nHoliday factor    " ++ (column (pointed 10 s.heading.parameters.holiday_factor) ++ (
    codes "\n\n" ++ stock_rows s))))))))

-- what it means that a question is answered no
abbrev pub meaning : Question → List ℕ
meaning Length = codes "the file is empty or longer than 67,108,864 bytes"
meaning Presence = codes "one of the first 13 lines is missing"
meaning Name = codes "the line does not have the name or the column names it must have"
meaning Cells = codes "a cell is missing, or there is one too many"
meaning Form = codes "a cell does not have the form of its value"
meaning Range = codes "a value is out of range or has too many places"
meaning First = codes "the stock already has such a row"
meaning Tier = codes "the stock's rows of returns and of a flat rate do not stand together"

-- a file that is refused
abbrev pub fault_report : Fault → List ℕ
fault_report x =
    codes "question " ++ (decimal (question_number x.question) ++ (
    codes ", line " ++ (decimal x.line ++ (
    codes ": " ++ meaning x.question))))
