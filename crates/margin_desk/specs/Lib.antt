pub mod Words
pub mod KindLaws
pub mod Usage
pub mod Items
pub mod Requests
pub mod Refusals
pub mod Answers
pub mod Assessments
