pub mod Inquiries
pub mod Batches
