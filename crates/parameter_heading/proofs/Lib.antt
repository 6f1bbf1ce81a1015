pub mod LineSteps
pub mod TitleSteps
pub mod GivenLines
pub mod ValueLaws
pub mod TitleLaws
pub mod GroupLaws
pub mod HeadingLaws
