pub mod ReturnLaws
pub mod UsualCells
pub mod UsualRows
pub mod Verdicts
