mod Lent
mod OrderExamples
mod ImportExamples
mod Firsts
mod Scans
mod Steps
mod Unfolding
mod Reached
mod SameEntries
pub mod Landing
mod Advancing
mod Beginning
pub mod Importing
