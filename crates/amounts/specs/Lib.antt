pub mod Sums
pub mod Sets
pub mod Tails
pub mod FirstFew
pub mod Rounding
pub mod Charges
pub mod Firsts
