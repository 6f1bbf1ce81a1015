pub mod Table
pub mod Tests
pub mod Reading
pub mod Checked
pub mod SourceLaw
