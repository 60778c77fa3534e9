pub mod MasterRounds
