pub mod Headers
pub mod Watched
pub mod Reactions
pub mod Tried
pub mod Trials
pub mod TriedLines
