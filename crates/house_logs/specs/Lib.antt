pub mod TurnTexts
pub mod Records
pub mod Logs
pub mod Faults
pub mod Reads
pub mod PrivateReads
