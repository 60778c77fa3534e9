pub mod Given
pub mod Carried
pub mod Examples
