pub mod Shelves
pub mod Looks
pub mod Removals
pub mod Chosen
pub mod Steps
pub mod Rests
pub mod Opens
