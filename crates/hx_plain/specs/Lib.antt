pub mod Book
pub mod Plain
pub mod PlainSeat
pub mod Row
