pub mod Refusals
pub mod Kinds
pub mod Settings
pub mod Entries
pub mod Table
pub mod Calls
pub mod Laws
