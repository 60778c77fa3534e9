pub mod CellUndoing
pub mod PartLoops
pub mod KnownLaws
pub mod MarkPurgeLaws
pub mod CellPurgeLaws
pub mod SomeCellLaws
pub mod Greatest
mod SortedValues
pub mod ShownLaws
pub mod PresentLaws
pub mod UpdateLaws
mod Examples
pub mod Unchanged
