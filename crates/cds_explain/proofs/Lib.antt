pub mod ScriptLemmas
pub mod ViewLemmas
pub mod ComparingLemmas
pub mod OrderLemmas
pub mod EpochLemmas
pub mod ReplayLemmas
pub mod ClockLemmas
pub mod AddingLemmas
pub mod MakingLemmas
pub mod ExplainerLemmas
pub mod PlaceLemmas
mod ReasonLemmas
