pub mod Sweeps
pub mod Drains
pub mod Slots
