pub mod ChainLemmas
pub mod ReadLemmas
pub mod Sizes
