mod WorkedWords
mod CommandLemmas
pub mod CopyLemmas
pub mod FaultLemmas
pub mod HostLemmas
pub mod JsonLemmas
pub mod NumberLemmas
pub mod PastedLemmas
pub mod StatusLemmas
pub mod StopLemmas
pub mod TryLemmas
