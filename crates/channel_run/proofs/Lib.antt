pub mod LiveLemmas
pub mod PieceResult
pub mod Words
