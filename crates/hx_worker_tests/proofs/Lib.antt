pub mod Begun
pub mod Benches
