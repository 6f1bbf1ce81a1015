-- The names that the heading's lines begin with, as bytes. Assumes nothing.
use Rattle.std.specs.Prelude.{ℕ, List, [], ◌∷◌}

-- Valuation_DT
abbrev pub valuation_date_name : List ℕ
valuation_date_name = 86 ∷ 97 ∷ 108 ∷ 117 ∷ 97 ∷ 116 ∷ 105 ∷ 111 ∷ 110 ∷ 95 ∷ 68 ∷ 84 ∷ []

-- HVaR_WGT
abbrev pub historical_weight_name : List ℕ
historical_weight_name = 72 ∷ 86 ∷ 97 ∷ 82 ∷ 95 ∷ 87 ∷ 71 ∷ 84 ∷ []

-- SVaR_WGT
abbrev pub stress_weight_name : List ℕ
stress_weight_name = 83 ∷ 86 ∷ 97 ∷ 82 ∷ 95 ∷ 87 ∷ 71 ∷ 84 ∷ []

-- HVaR_Scen_Count
abbrev pub historical_count_name : List ℕ
historical_count_name = 72 ∷ 86 ∷ 97 ∷ 82 ∷ 95 ∷ 83 ∷ 99 ∷ 101 ∷ 110 ∷ 95 ∷ 67 ∷ 111 ∷ 117 ∷ 110 ∷ 116 ∷ []

-- SVaR_Scen_Count
abbrev pub stress_count_name : List ℕ
stress_count_name = 83 ∷ 86 ∷ 97 ∷ 82 ∷ 95 ∷ 83 ∷ 99 ∷ 101 ∷ 110 ∷ 95 ∷ 67 ∷ 111 ∷ 117 ∷ 110 ∷ 116 ∷ []

-- STV_Count
abbrev pub stv_count_name : List ℕ
stv_count_name = 83 ∷ 84 ∷ 86 ∷ 95 ∷ 67 ∷ 111 ∷ 117 ∷ 110 ∷ 116 ∷ []

-- HVaR_CL
abbrev pub historical_level_name : List ℕ
historical_level_name = 72 ∷ 86 ∷ 97 ∷ 82 ∷ 95 ∷ 67 ∷ 76 ∷ []

-- SVaR_CL
abbrev pub stress_level_name : List ℕ
stress_level_name = 83 ∷ 86 ∷ 97 ∷ 82 ∷ 95 ∷ 67 ∷ 76 ∷ []

-- HVaR_Measure
abbrev pub historical_measure_name : List ℕ
historical_measure_name = 72 ∷ 86 ∷ 97 ∷ 82 ∷ 95 ∷ 77 ∷ 101 ∷ 97 ∷ 115 ∷ 117 ∷ 114 ∷ 101 ∷ []

-- SVaR_Measure
abbrev pub stress_measure_name : List ℕ
stress_measure_name = 83 ∷ 86 ∷ 97 ∷ 82 ∷ 95 ∷ 77 ∷ 101 ∷ 97 ∷ 115 ∷ 117 ∷ 114 ∷ 101 ∷ []

-- Rounding
abbrev pub rounding : List ℕ
rounding = 82 ∷ 111 ∷ 117 ∷ 110 ∷ 100 ∷ 105 ∷ 110 ∷ 103 ∷ []

-- Holiday_Factor
abbrev pub holiday_factor_name : List ℕ
holiday_factor_name = 72 ∷ 111 ∷ 108 ∷ 105 ∷ 100 ∷ 97 ∷ 121 ∷ 95 ∷ 70 ∷ 97 ∷ 99 ∷ 116 ∷ 111 ∷ 114 ∷ []

-- InstrumentId
abbrev pub instrument_id_name : List ℕ
instrument_id_name = 73 ∷ 110 ∷ 115 ∷ 116 ∷ 114 ∷ 117 ∷ 109 ∷ 101 ∷ 110 ∷ 116 ∷ 73 ∷ 100 ∷ []

-- FieldType
abbrev pub field_type_name : List ℕ
field_type_name = 70 ∷ 105 ∷ 101 ∷ 108 ∷ 100 ∷ 84 ∷ 121 ∷ 112 ∷ 101 ∷ []
