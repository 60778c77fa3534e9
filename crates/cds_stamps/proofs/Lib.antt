pub mod TreeViews
pub mod Undoing
pub mod ValidJoins
pub mod NameLaws
pub mod OutcomeLaws
mod Examples
pub mod MemberLaws
pub mod Masks
pub mod ListMembers
pub mod AscendingLaws
pub mod FirstLaws
pub mod FirstFaults
pub mod NameFaults
pub mod MemberFaults
pub mod OctetWords
