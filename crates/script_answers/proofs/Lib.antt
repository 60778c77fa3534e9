pub mod Printing
pub mod DumpLoops
pub mod WordTexts
pub mod ReadWords
mod Examples
