pub mod Records
pub mod RecordMemory
pub mod Images
pub mod RecordOctets
pub mod Migration
pub mod RecordRanges
