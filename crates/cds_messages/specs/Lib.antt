pub mod Dirs
pub mod KindNumbers
pub mod PrivateDirCodes
pub mod Messages
pub mod Validity
