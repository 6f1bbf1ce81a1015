pub mod HeadLaws
pub mod KeptLaws
pub mod TableLaws
pub mod ReadingLaws
pub mod TestLaws
pub mod JudgingLaws
pub mod IndexLaws
pub mod SummaryLaws
