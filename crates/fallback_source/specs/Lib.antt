pub mod Fallback
pub mod Refusals
