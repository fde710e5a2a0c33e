pub mod Cutting
pub mod ChannelTables
pub mod OpenRows
pub mod BlockCuts
pub mod BlockStates
pub mod Walks
