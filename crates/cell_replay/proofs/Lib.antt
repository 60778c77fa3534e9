pub mod NewDisks
pub mod Streams
pub mod TowerTurns
pub mod TowerLaws
mod WholeReads
pub mod WholeTurns
pub mod AllForms
pub mod RoundTrip
pub mod JournalReplays
mod Examples
pub mod WithoutJournals
pub mod InquiredScripts
pub mod Tasks
pub mod CheckedLines
