pub mod TextCuts
pub mod TextBlocks
pub mod Readings
