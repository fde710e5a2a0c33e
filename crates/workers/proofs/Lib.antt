pub mod Lists
pub mod Faults
pub mod Ends
pub mod Pieces
pub mod FedLists
