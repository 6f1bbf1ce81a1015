pub mod Meaning
pub mod Lawful
pub mod Refusals
