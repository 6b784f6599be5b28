pub mod Views
pub mod Rule
pub mod LockDesks
pub mod Seats
pub mod Boards
pub mod Telling
pub mod Order
