pub mod MemberWords
pub mod Listings
pub mod LineRows
pub mod PrivateLineRows
