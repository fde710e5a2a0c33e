pub mod Stations
pub mod Choosing
pub mod Givens
pub mod Lines
