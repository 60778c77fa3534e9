pub mod Inquiring
pub mod PrivateInquiring
