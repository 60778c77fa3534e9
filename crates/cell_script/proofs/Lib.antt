pub mod Numbers
pub mod Splitting
pub mod Reading
pub mod Updates
pub mod Families
pub mod ListedTexts
pub mod Rounds
pub mod ScriptLengths
mod Examples
