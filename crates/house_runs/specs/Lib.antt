pub mod Folders
pub mod Tales
pub mod Runs
