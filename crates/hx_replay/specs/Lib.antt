pub mod Commands
pub mod Texts
pub mod Reads
pub mod Checks
pub mod Endings
