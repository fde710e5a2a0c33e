pub mod Machine
pub mod MachineEvents
pub mod Peak
pub mod Observer
pub mod Calls
pub mod Accounts
pub mod Report
