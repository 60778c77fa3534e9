mod Pieces
mod Cuts
pub mod SaidAgain
pub mod PlainTexts
mod PlainWords
pub mod PlainLines
pub mod LastTurns
pub mod RunningLines
mod SkulkWords
pub mod Resumptions
mod Redoing
mod Letters
mod Outcomes
pub mod Comes
pub mod PostedMessages
mod Replies
mod Recorded
mod Joining
mod Asked
mod Shows
