pub mod Returns
pub mod Reading
pub mod Asking
