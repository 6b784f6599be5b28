pub mod Lines
pub mod Records
pub mod Rules
pub mod Broken
pub mod Asked
pub mod Conns
pub mod Judged
pub mod PartsOf
