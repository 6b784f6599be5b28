pub mod Rising
pub mod Finding
pub mod Writing
pub mod Searching
