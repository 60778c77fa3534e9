pub mod FaultyLines
pub mod TowerLines
pub mod DigitValues
