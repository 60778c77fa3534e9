pub mod Values
pub mod Marks
pub mod AttributeCells
pub mod CellLawProofs
pub mod CellUndoWords
pub mod CellChanges
pub mod CellPurges
pub mod ShownValues
