pub mod LoggedEntries
pub mod Explained
pub mod Causes
pub mod ReasonLines
pub mod PrivateComparing
pub mod PrivateConsole
pub mod PrivateReplays
pub mod PrivateExplainers
