pub mod ReachedReadings
pub mod SaidLaws
mod RecordAnswers
pub mod UpdateLaws
pub mod LoadTurns
pub mod HeadlineLaws
pub mod Completions
pub mod Scripts
