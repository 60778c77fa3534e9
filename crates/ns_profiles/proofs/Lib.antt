pub mod ElementLaws
pub mod ReadBack
pub mod Searches
pub mod Additions
pub mod MemberTests
