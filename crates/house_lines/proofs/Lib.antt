pub mod LineFamilies
pub mod LineUpdates
pub mod ListingLemmas
mod Examples
