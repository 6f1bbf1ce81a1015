pub mod Names
pub mod Lines
pub mod Taking
pub mod Headings
pub mod Laid
