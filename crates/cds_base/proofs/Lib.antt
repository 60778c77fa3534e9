mod Buffers
mod Examples
pub mod KnownOctets
pub mod LineAnswers
mod Scans
