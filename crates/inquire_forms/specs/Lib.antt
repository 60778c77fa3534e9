pub mod InquireWords
pub mod InquireLines
pub mod Inquired
pub mod InquireTexts
pub mod PrivateInquireLines
