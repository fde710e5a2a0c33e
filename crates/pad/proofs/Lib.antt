pub mod PairLemmas
pub mod MessageLemmas
pub mod Walked
pub mod Applied
