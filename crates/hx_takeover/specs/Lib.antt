pub mod Scans
pub mod Takeover
