pub mod Rising
pub mod Adding
pub mod AnswerTexts
pub mod ReadBack
mod Examples
