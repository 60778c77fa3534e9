pub mod HouseLetters
pub mod ModelHouses
pub mod HouseSteps
pub mod HouseTakes
pub mod HouseUpdates
pub mod LawfulHouses
pub mod PrivateTurns
pub mod HouseImages
