-- An assessment as it is printed; the last line end is the caller's. Assumes nothing.
use Rattle.std.specs.Prelude.{ℕ, cond, List, [], ◌∷◌, ◌++◌, ℤ, codes, decimal, ◌==◌}
use Rattle.std.specs.Fmt.{signed_decimal}
use Rattle.ledger.specs.declared.terms.Kind.{Kind}
use Rattle.ledger.specs.declared.terms.Kind.TheVariants.{Stock, Dsp, Sri, Div}
use Rattle.ledger.specs.Kinds.{kind_number}
use Rattle.margin_rules.specs.declared.terms.Assessment.{Assessment}
use Rattle.margin_rules.specs.declared.terms.Holding.{Holding}
use Rattle.figures.specs.declared.form.Form.{Form}
use Rattle.figures.specs.declared.form.Form.TheVariants.{Report, Csv}
use Rattle.figures.specs.Figures.{dollars}
use Rattle.figures.specs.Columns.{right, count_cell}

-- ---- for scripts: a name and a value on each line

abbrev pub margin_lines : Assessment → List ℕ
margin_lines a =
    codes "portfolio," ++ (signed_decimal a.portfolio ++ (
    codes "\nflat_rate," ++ (signed_decimal a.flat_rate ++ (
    codes "\ncorporate_action," ++ (signed_decimal a.corporate_action ++ (
    codes "\nholiday," ++ (signed_decimal a.holiday ++ (
    codes "\naggregate," ++ (signed_decimal a.aggregate ++ (
    codes "\nrounded," ++ signed_decimal a.rounded))))))))))

abbrev pub payment_lines : Assessment → List ℕ
payment_lines a =
    codes "favourable," ++ (signed_decimal a.favourable ++ (
    codes "\nrequirement," ++ (signed_decimal a.requirement ++ (
    codes "\nnet," ++ (signed_decimal a.net ++ (
    codes "\ncredited," ++ (signed_decimal a.credited ++ (
    codes "\ntotal," ++ (signed_decimal a.total ++ (
    codes "\npositions," ++ decimal a.positions))))))))))

-- ---- for people: aligned columns, thousands separated

-- an amount at the right of a column of twenty places, and a stock at the right of one of ten
unfoldable pub amount_cell : ℤ → List ℕ
amount_cell z = right 20 (dollars z)

unfoldable pub stock_cell : ℕ → List ℕ
stock_cell x = right 10 (decimal x)

abbrev pub margin_rows : Assessment → List ℕ
margin_rows a =
    codes "Portfolio margin         " ++ (amount_cell a.portfolio ++ (
    codes "\nFlat-rate margin         " ++ (amount_cell a.flat_rate ++ (
    codes "\nCorporate-action margin  " ++ (amount_cell a.corporate_action ++ (
    codes "\nHoliday margin           " ++ (amount_cell a.holiday ++ (
    codes "\nAggregate                " ++ (amount_cell a.aggregate ++ (
    codes "\nRounded up to the step   " ++ amount_cell a.rounded))))))))))

abbrev pub payment_rows : Assessment → List ℕ
payment_rows a =
    codes "Favourable mark          " ++ (amount_cell a.favourable ++ (
    codes "\nMark requirement         " ++ (amount_cell a.requirement ++ (
    codes "\nNet                      " ++ (amount_cell a.net ++ (
    codes "\nAfter the credit         " ++ (amount_cell a.credited ++ (
    codes "\nTotal                    " ++ (amount_cell a.total ++ (
    codes "\nPortfolio positions            " ++ count_cell a.positions))))))))))

-- all figures
abbrev pub figures_text : Form → Assessment → List ℕ
figures_text Csv a = margin_lines a ++ (codes "\n" ++ payment_lines a)
figures_text Report a = margin_rows a ++ (codes "\n\n" ++ (payment_rows a ++ codes "\n\nHolding             Stock        Market value"))

-- the name of a kind, as wide as its column
abbrev pub kind_name : Kind → List ℕ
kind_name Stock = codes "stock          "
kind_name Dsp = codes "DSP entitlement"
kind_name Sri = codes "SRI entitlement"
kind_name Div = codes "DIV entitlement"

-- a place of the list of holdings; for people a spare one, of stock 0, is left out
abbrev pub holding_text : Form → Holding → List ℕ
holding_text Csv h = codes "\nholding," ++ (decimal (kind_number h.kind) ++ (codes "," ++ (decimal h.stock ++ (codes "," ++ signed_decimal h.market_value))))
holding_text Report h = cond (h.stock == 0) [] (codes "\n" ++ (kind_name h.kind ++ (stock_cell h.stock ++ amount_cell h.market_value)))

abbrev pub holdings_text : Form → List Holding → List ℕ
holdings_text form [] = []
holdings_text form (h ∷ hs) = holding_text form h ++ holdings_text form hs

-- an assessment
abbrev pub assessment_text : Form → Assessment → List Holding → List ℕ
assessment_text form a hs = figures_text form a ++ holdings_text form hs
