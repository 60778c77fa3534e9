pub mod ClerkWords
pub mod AnswerRows
pub mod ShownEntries
pub mod Hearings
pub mod ShownTexts
pub mod RootLists
pub mod ClerkTexts
