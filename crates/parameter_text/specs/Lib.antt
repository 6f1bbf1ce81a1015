pub mod Questions
pub mod Cuts
pub mod Digits
pub mod Decimals
pub mod Integers
pub mod Dates
pub mod Left
pub mod Signs
