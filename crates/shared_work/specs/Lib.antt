pub mod queue
pub mod findings
