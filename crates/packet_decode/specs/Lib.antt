pub mod Asked
pub mod Reading
pub mod CallFaults
pub mod Blocks
pub mod Shown
pub mod SaidData
