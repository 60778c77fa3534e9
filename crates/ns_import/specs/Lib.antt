pub mod Orders
pub mod DepthFirst
pub mod Imports
pub mod Coming
pub mod Waitings
pub mod Saying
