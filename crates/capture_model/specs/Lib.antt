pub mod Frames
pub mod Reasons
pub mod Kinds
pub mod Views
pub mod Ethernet
pub mod Devices
pub mod HeaderViews
pub mod LinkHeaders
