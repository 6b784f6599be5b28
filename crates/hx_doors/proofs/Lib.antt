pub mod Given
pub mod First
