pub mod Seen
pub mod Refusal
pub mod Gathered
pub mod Merged
pub mod Parts
