pub mod MapValues
pub mod ReplicaLaws
pub mod Times
pub mod MergeLaws
pub mod StepLaws
