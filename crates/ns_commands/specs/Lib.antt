pub mod Asks
pub mod Imported
