pub mod InquireLines
mod InquireBatches
mod InquireTexts
mod InquireExamples
