pub mod Order
pub mod First
