pub mod Addresses
pub mod Faults
pub mod Lexical
pub mod Numbers
pub mod Tables
