pub mod Header
pub mod RowLine
pub mod Text
