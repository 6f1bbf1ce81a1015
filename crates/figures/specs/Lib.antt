pub mod Figures
pub mod Columns
pub mod Forms
