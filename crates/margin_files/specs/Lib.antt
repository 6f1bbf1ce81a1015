pub mod Numbers
pub mod Files
pub mod Wholes
pub mod Settings
pub mod Journals
