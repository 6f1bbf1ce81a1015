pub mod Shifts
pub mod Inserts
pub mod Kept
pub mod Offers
