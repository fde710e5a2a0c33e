pub mod Book
pub mod Work
