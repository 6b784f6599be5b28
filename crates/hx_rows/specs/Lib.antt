pub mod Stays
pub mod Steps
pub mod Row
