pub mod Shuffle
pub mod Pieces
pub mod Merge
pub mod Plan
pub mod Plans
