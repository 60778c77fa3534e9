pub mod Journaled
pub mod CellJournals
pub mod CellDisks
pub mod DiskCalls
pub mod Keeping
pub mod PrivateJournals
pub mod KeptProofs
pub mod JournalRules
