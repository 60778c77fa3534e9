pub mod Demand
pub mod Readings
pub mod Runs
pub mod Endings
pub mod Leaving
pub mod Lines
pub mod Dialogues
pub mod LineRules
