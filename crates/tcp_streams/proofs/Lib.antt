mod Passing
mod Copies
mod Order
mod Tiled
mod Events
mod Lending
mod Runs
mod Agreement
pub mod Progress
