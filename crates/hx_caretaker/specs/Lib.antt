pub mod Sweeps
pub mod Caring
pub mod Owners
pub mod Rounds
pub mod Orders
pub mod Sites
