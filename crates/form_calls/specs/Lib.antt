pub mod Calls
pub mod PrivateTexts
