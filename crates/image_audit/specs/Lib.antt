pub mod Facts
pub mod Verdicts
pub mod Pairs
pub mod LawWords
pub mod PrivateOpen
pub mod PrivatePairs
