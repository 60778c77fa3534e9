mod Posts
mod Encoding
mod JoinSteps
mod Houses
mod Takings
mod Entering
mod Keeping
mod Does
pub mod Starting
pub mod Restarting
pub mod Looks
pub mod RunningOn
