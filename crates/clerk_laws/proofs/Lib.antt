pub mod FaceValues
pub mod FaceLeads
pub mod ShowsRead
pub mod CellSights
pub mod CellAnswers
pub mod CellReplies
