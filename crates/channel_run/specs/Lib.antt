pub mod Run
pub mod Tally
pub mod Live
pub mod StatusWord
pub mod Views
