pub mod Rows
pub mod Judged
pub mod Laid
