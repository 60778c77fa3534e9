pub mod HeardLaws
mod ClosedLaws
mod SearchLaws
mod UnreachedLaws
pub mod InquiryLaws
pub mod LinkLaws
mod PlanLaws
