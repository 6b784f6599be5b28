pub mod Asking
pub mod Seats
pub mod ReplayCares
