pub mod LineLemmas
pub mod CommandWords
pub mod SaidCommands
