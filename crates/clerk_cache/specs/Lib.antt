pub mod Clerks
pub mod Resolutions
