pub mod Rows
pub mod Desks
pub mod Row
