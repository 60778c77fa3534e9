pub mod Fairness
pub mod Converging
pub mod Needs
