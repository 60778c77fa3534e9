pub mod KeptMembers
pub mod Candidates
pub mod Joins
pub mod LeftOut
