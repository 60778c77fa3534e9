pub mod TextLemmas
pub mod ReadingLemmas
pub mod RecordLemmas
pub mod FollowLemmas
pub mod SegmentLemmas
