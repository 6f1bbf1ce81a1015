pub mod DigitLaws
pub mod DigitSteps
pub mod DecimalLaws
pub mod DecimalSteps
pub mod CutLaws
pub mod LineLaws
pub mod IntegerLaws
pub mod DateLaws
