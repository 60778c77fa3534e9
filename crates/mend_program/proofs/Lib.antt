mod ScriptHouses
mod Values
mod Posts
mod ExportLines
mod Serials
mod Sayable
mod Sums
pub mod Mendings
pub mod Runs
