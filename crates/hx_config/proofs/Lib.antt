pub mod Choices
pub mod Finishing
pub mod ReadLines
pub mod Servers
pub mod Soundness
pub mod Whole
