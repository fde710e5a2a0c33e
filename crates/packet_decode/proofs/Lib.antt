pub mod OctetLemmas
pub mod FacilityLemmas
pub mod AskedLemmas
pub mod CallTypes
pub mod SaidPackets
pub mod BlockLemmas
pub mod KindLemmas
