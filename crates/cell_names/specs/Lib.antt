pub mod FullNames
pub mod Houses
pub mod ChildPointers
