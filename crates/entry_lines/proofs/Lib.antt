pub mod SameLists
pub mod UnsaidLines
