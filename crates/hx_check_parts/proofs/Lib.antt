pub mod EachLemmas
pub mod TotalsLemmas
pub mod MarkLemmas
pub mod FoundLemmas
pub mod ReachLemmas
pub mod SessionLemmas
pub mod NumberLemmas
pub mod LeftLemmas
