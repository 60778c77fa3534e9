mod CellInquiries
mod PlainLaws
