pub mod JsonLemmas
pub mod BetweenCallsLemmas
pub mod MemberLemmas
pub mod ObjectLemmas
pub mod ReportLemmas
