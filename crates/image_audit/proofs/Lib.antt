pub mod FrontImages
pub mod OpenFacts
pub mod Looked
pub mod KnownCells
pub mod Agreeing
pub mod Outdone
pub mod FactOrder
pub mod FirstFacts
mod Examples
