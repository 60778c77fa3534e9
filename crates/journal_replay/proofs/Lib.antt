mod Putting
mod Giving
mod Acting
mod OneHouse
mod Doing
mod Refusals
mod StopPuts
mod StopDone
mod StopReplies
mod Replied
mod Reopening
mod StopHouse
pub mod LeftDisks
pub mod Usable
mod DiskUses
mod FullTold
