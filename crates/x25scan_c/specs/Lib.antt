pub mod Waits
pub mod Owning
pub mod Rows
pub mod Sound
pub mod Found
