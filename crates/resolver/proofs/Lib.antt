mod LinkLaws
pub mod PassLaws
pub mod ChangingLaws
mod SeenLaws
mod EndLaws
mod Examples
pub mod NearLaws
