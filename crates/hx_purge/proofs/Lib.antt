pub mod Sweeping
pub mod Closing
pub mod Draining
pub mod Marking
pub mod Slotting
pub mod Emptied
