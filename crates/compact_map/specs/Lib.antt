pub mod MapEntries
pub mod MapCallWords
pub mod Lefts
pub mod Tables
pub mod VecLent
pub mod TableLent
pub mod Lent
