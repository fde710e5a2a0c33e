pub mod Traces
pub mod WorkedGapTraces
pub mod WorkedTexts
pub mod WorkedReports
pub mod WorkedTraces
