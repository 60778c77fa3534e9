pub mod EntryCommands
pub mod SaidLines
pub mod MadeLines
