pub mod Lasts
mod StoppedPuts
mod Sizes
pub mod Leaving
mod StopEnds
