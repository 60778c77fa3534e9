pub mod Elements
pub mod Profiles
