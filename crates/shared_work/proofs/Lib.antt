pub mod Moves
pub mod Noted
pub mod Bundles
pub mod Adding
