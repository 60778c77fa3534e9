pub mod Faces
pub mod HeardCells
