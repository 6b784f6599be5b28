pub mod SeatCalls
pub mod ThreeSeats
pub mod RowCalls
