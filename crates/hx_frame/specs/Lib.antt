pub mod Framing
pub mod Chunks
pub mod Endings
pub mod States
pub mod Meters
