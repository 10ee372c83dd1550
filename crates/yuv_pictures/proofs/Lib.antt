pub mod Rows
pub mod Troubles
