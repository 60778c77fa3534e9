pub mod OwnStamps
pub mod NoneLater
