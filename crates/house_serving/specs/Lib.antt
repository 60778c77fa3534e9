pub mod Ending
pub mod Faults
pub mod PrivateParts
pub mod Replies
pub mod Serving
pub mod Turns
