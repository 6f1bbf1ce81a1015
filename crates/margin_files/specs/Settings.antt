-- A settings file: nine lines, each a name and its value, in a fixed order, and no line more. Assumes nothing.
use Rattle.std.specs.Prelude.{ℕ, ◌+◌, ◌-◌, cond, List, [], ◌++◌, map, length, replicate, ℤ, is_none, Some, None, Ok, Err, Option, Result, codes, nat_le, ok_or, option_and_then}
use Rattle.parameter_text.specs.Questions.{and_then, seen_as}
use Rattle.ledger.specs.declared.terms.GivenAmounts.{GivenAmounts}
use Rattle.ledger.specs.declared.terms.Settings.{Settings}
use Rattle.margin_files.specs.declared.terms.FormFault.{FormFault}
use Rattle.margin_files.specs.declared.settings_file.Rates.{Rates}
use Rattle.margin_files.specs.Numbers.{whole_number, two_places, four_places, in_u32, in_u64}
use Rattle.margin_files.specs.Files.{line_at, cells_at, value_at}
use Rattle.margin_files.specs.Wholes.{wholes}

-- the fault of a line
abbrev pub fault_at : ℕ → FormFault
fault_at n = record { line = n }

-- the value that is read behind the name on the line of a number, or the fault of that line
unfoldable pub read_at : {X : Type 0} → (List ℕ → Option X) → ℕ → List ℕ → List (List ℕ) → Result X FormFault
read_at read n name ls = ok_or (option_and_then read (value_at n name ls)) (fault_at n)

-- an amount, hundredths and ten-thousandths, each told as a number of its field's type
unfoldable pub amount_at : ℕ → List ℕ → List (List ℕ) → Result ℕ FormFault
amount_at n name ls = seen_as in_u64 (read_at whole_number n name ls)

unfoldable pub hundredths_at : ℕ → List ℕ → List (List ℕ) → Result ℕ FormFault
hundredths_at n name ls = seen_as in_u32 (read_at two_places n name ls)

unfoldable pub ten_thousandths_at : ℕ → List ℕ → List (List ℕ) → Result ℕ FormFault
ten_thousandths_at n name ls = seen_as in_u32 (read_at four_places n name ls)

-- lines 1 to 3: the multiplier, the credit and the floor rate
unfoldable pub rates_in : List (List ℕ) → Result Rates FormFault
rates_in ls =
    and_then (hundredths_at 1 (codes "Multiplier") ls) (λ multiplier.
    and_then (amount_at 2 (codes "Credit") ls) (λ credit.
    and_then (ten_thousandths_at 3 (codes "Floor_Rate") ls) (λ floor_rate.
    Ok (record { multiplier = multiplier; credit = credit; floor_rate = floor_rate }))))

-- lines 4 to 8: the given amounts
unfoldable pub given_in : List (List ℕ) → Result GivenAmounts FormFault
given_in ls =
    and_then (amount_at 4 (codes "Liquidation") ls) (λ liquidation.
    and_then (amount_at 5 (codes "Structured_Product") ls) (λ structured_product.
    and_then (amount_at 6 (codes "Position_Limit") ls) (λ position_limit.
    and_then (amount_at 7 (codes "Credit_Risk") ls) (λ credit_risk.
    and_then (amount_at 8 (codes "Ad_Hoc") ls) (λ ad_hoc.
    Ok (record { liquidation = liquidation; structured_product = structured_product; position_limit = position_limit; credit_risk = credit_risk; ad_hoc = ad_hoc }))))))

-- sixteen places: the stocks in front that were read, the others behind them, and 0 where none is named
abbrev pub placed : List ℕ → List ℤ → Option (List ℕ)
placed front stocks =
    cond (nat_le (length front + length stocks) 16) (Some (front ++ (map in_u32 stocks ++ replicate (16 - (length front + length stocks)) 0))) None

-- up to sixteen IPO stocks
unfoldable pub ipo_stocks : List (List ℕ) → Option (List ℕ)
ipo_stocks cells = option_and_then (placed []) (wholes cells)

-- line 9: the IPO stocks
unfoldable pub ipo_in : List (List ℕ) → Result (List ℕ) FormFault
ipo_in ls = ok_or (option_and_then ipo_stocks (cells_at 9 (codes "IPO") ls)) (fault_at 9)

abbrev pub settings_from : Rates → GivenAmounts → List ℕ → Settings
settings_from r g ipo = record { multiplier = r.multiplier; credit = r.credit; floor_rate = r.floor_rate; given = g; ipo = ipo }

-- there is no tenth line
abbrev pub ended_by : List (List ℕ) → Settings → Result Settings FormFault
ended_by ls s = cond (is_none (line_at 10 ls)) (Ok s) (Err (fault_at 10))

-- the settings that the lines of a file lay down, or the first line that does not have its form
abbrev pub settings_of : List (List ℕ) → Result Settings FormFault
settings_of ls = and_then (rates_in ls) (λ rates. and_then (given_in ls) (λ given. and_then (ipo_in ls) (λ ipo. ended_by ls (settings_from rates given ipo))))
