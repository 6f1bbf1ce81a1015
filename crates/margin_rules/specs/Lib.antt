pub mod Positions
pub mod Portfolio
pub mod Charges
pub mod Requirement
pub mod Answers
pub mod Unrounded
pub mod Laws
pub mod Figures
