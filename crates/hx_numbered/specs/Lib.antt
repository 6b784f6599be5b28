pub mod Numbers
pub mod Numbered
pub mod Listed
pub mod Lends
