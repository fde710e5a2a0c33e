pub mod CaptureFileLemmas
mod CaptureRowLemmas
mod CircuitBatchLemmas
mod CircuitReaderLemmas
mod CircuitReadingLemmas
mod CircuitRowLemmas
mod DecimalLemmas
mod FileLemmas
mod FrameLemmas
mod GapLemmas
pub mod HeaderLemmas
mod HeaderTextLemmas
mod GivingLemmas
mod HeldLemmas
mod HexDigitLemmas
mod ItemLemmas
mod JoinLemmas
mod KeptLemmas
mod LinkLemmas
mod PcapngRecordLemmas
mod OtherPortLemmas
mod PlaceLemmas
mod PortSightLemmas
mod ReadingLemmas
mod ReasonLemmas
mod RowWordLemmas
mod SearchLemmas
mod SoFarLemmas
mod SegmentLemmas
mod RecordingLemmas
mod TextLemmas
pub mod CircuitLineLemmas
mod CircuitTextLemmas
mod TraceTextLemmas
mod CircuitChannelLemmas
pub mod CircuitLemmas
mod PipedLemmas
mod PipedTextLemmas
