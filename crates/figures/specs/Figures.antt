-- Figures as text. Assumes nothing.
use Rattle.std.specs.Prelude.{ℕ, zero, suc, ◌+◌, ◌/◌, ◌%◌, ◌^◌, cond, List, [], ◌++◌, codes, decimal, ℤ, pos, negsuc, nat_lt}
use Rattle.parameter_text.specs.declared.terms.Date.{Date}

-- the last digits of a number, with zeros in front where it has fewer
abbrev pub padded : ℕ → ℕ → List ℕ
padded zero n = []
padded (suc k) n = padded k (n / 10) ++ decimal (n % 10)

-- a decimal, from its number of units of the last place
abbrev pub pointed : ℕ → ℕ → List ℕ
pointed places n = decimal (n / 10 ^ places) ++ (codes "." ++ padded places n)

-- a number with a comma before each three of its digits, as many commas as it needs and at most k
abbrev pub separated : ℕ → ℕ → List ℕ
separated zero n = decimal n
separated (suc k) n = cond (nat_lt n 1000) (decimal n) (separated k (n / 1000) ++ (codes "," ++ padded 3 n))

-- whole dollars with separated thousands, as many commas as 64 bits need
abbrev pub dollars : ℤ → List ℕ
dollars (pos n) = separated 6 n
dollars (negsuc n) = codes "-" ++ separated 6 (n + 1)

-- a day as year, month and day, the last two of two digits
abbrev pub iso_date : Date → List ℕ
iso_date d = decimal d.year ++ (codes "-" ++ (padded 2 d.month ++ (codes "-" ++ padded 2 d.day)))
