pub mod MemberKinds
pub mod PutLines
pub mod ReadBack
pub mod Readying
pub mod Ready
pub mod MendForms
pub mod Choosing
pub mod Rooms
