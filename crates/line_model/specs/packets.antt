pub mod Classes
pub mod Facilities
pub mod Formats
pub mod Says
