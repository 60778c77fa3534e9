pub mod NameWalks
pub mod Spellings
pub mod Rising
pub mod HouseWalks
pub mod HouseLaws
pub mod PointerWalks
pub mod PointerLaws
pub mod FullNameLaws
pub mod SpelledWalks
mod Examples
pub mod NameFaults
pub mod LentNames
