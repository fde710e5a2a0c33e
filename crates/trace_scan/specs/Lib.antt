pub mod Follow
pub mod Threaded
