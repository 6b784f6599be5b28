pub mod Heads
pub mod Reads
pub mod Causes
pub mod Options
pub mod Staying
pub mod Writes
