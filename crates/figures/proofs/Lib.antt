mod FigureLaws
mod LengthLaws
pub mod WriteLaws
