pub mod KeptLines
pub mod OpenFaults
pub mod Shown
