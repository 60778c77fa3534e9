pub mod Texts
pub mod RootAsks
pub mod Goings
pub mod Places
pub mod Refusing
pub mod Waiting
