pub mod Answered
pub mod RowLaws
pub mod FileLaws
pub mod SourceLaws
