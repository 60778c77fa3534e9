pub mod Replicas
pub mod Latest
