pub mod Begins
pub mod Benches
