pub mod Forms
pub mod Shown
pub mod Json
pub mod BetweenCalls
pub mod Cuts
pub mod Reports
