pub mod JournalLines
pub mod JournalTexts
pub mod PrivateStops
