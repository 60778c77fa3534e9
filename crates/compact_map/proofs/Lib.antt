pub mod Places
pub mod Ascending
pub mod Found
pub mod Sifting
