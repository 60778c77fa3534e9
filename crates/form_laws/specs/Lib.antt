pub mod LastAnswers
pub mod Unrefused
pub mod Summaries
pub mod Honesty
pub mod Settled
