pub mod Packets
pub mod SequenceLemmas
pub mod Sides
pub mod FlowLemmas
pub mod SendLemmas
pub mod WordLemmas
