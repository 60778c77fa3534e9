mod JoinedWords
mod Turns
mod Readings
mod Lines
mod Waits
mod Segments
mod LastTurns
mod Cells
pub mod Crashes
pub mod Restarts
mod Examples
