pub mod Items
pub mod Faults
