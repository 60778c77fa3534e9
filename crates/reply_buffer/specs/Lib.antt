pub mod FaultTexts
pub mod TowerTexts
pub mod Responses
pub mod LineEnds
pub mod Waiting
pub mod PrivateTowers
