mod MemberLists
pub mod Maps
pub mod Posts
mod Receivers
pub mod Phases
pub mod TakeSteps
mod Accepting
mod Beginning
pub mod Lawfulness
pub mod Takings
pub mod Keeping
