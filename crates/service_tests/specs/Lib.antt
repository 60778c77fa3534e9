pub mod PairReaders
pub mod ShelfReaders
