mod Lists
mod Turning
mod Summing
mod Opens
mod Knowing
pub mod OwnRow
mod Rightness
mod Frame
mod Heads
mod Slots
mod Wording
mod Giving
mod Telling
mod Seating
pub mod Rests
pub mod Drained
pub mod Laws
