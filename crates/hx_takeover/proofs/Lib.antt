pub mod Lists
pub mod Trying
pub mod Rows
pub mod Counting
