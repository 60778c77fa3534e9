pub mod ProgramWords
pub mod ClerkRuns
pub mod LineTurns
