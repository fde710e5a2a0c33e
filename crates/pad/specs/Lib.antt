pub mod Codes
pub mod Pairs
pub mod Effects
pub mod Represents
pub mod MessageEvents
pub mod Concerns
