pub mod Going
pub mod Servers
