pub mod Beginning
pub mod Closing
pub mod Going
pub mod Working
pub mod Orders
pub mod Coursing
pub mod Ending
pub mod Standing
