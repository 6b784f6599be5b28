pub mod Options
pub mod Files
pub mod Listens
pub mod Starts
