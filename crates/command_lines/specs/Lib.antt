pub mod CommandTexts
pub mod ListedMembers
pub mod SayableCommands
