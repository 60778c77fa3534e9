pub mod UpTos
pub mod Prefixes
pub mod Phases
pub mod Takes
pub mod Raises
pub mod Joins
pub mod Begun
pub mod Courses
pub mod Letters
pub mod Endings
pub mod Converging
pub mod Needs
mod Examples
pub mod Mends
pub mod Exact
