pub mod Cuts
pub mod Endings
pub mod Lexing
pub mod Values
