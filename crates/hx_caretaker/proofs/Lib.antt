pub mod Balance
pub mod SweepLemmas
pub mod PurgeLemmas
pub mod DrainLemmas
pub mod SeatLemmas
pub mod RowLemmas
