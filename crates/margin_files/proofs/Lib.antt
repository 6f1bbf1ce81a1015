pub mod NumberSteps
pub mod CountSteps
pub mod WholeSteps
pub mod JournalSteps
pub mod LineSteps
pub mod IpoSteps
