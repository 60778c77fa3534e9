pub mod Readiness
pub mod MendLines
pub mod SayableCommands
pub mod Quiet
pub mod PrivateLines
pub mod Menders
pub mod MendRules
pub mod PrivateMasters
