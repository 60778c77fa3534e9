pub mod Fronts
pub mod Lines
pub mod Runs
pub mod Works
