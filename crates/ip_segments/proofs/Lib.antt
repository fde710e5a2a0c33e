pub mod Extensions
mod Passing
mod Copies
mod Made
mod Limit
mod Labels
mod Opening
mod Parts
