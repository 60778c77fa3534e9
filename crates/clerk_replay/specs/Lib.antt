pub mod Clerking
pub mod ClerkLines
pub mod PrivateClerking
