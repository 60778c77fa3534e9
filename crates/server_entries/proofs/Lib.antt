pub mod ReadBack
pub mod ServerReading
pub mod ListSteps
pub mod LeastLaws
pub mod ExportLaws
pub mod Unexports
