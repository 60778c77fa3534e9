pub mod Statuses
pub mod Texts
pub mod Folders
pub mod Endings
