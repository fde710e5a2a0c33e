pub mod HandleValues
pub mod LooseValues
pub mod ScanLemmas
