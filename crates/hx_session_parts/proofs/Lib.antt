pub mod AgainLemmas
pub mod BodyLemmas
pub mod GrowthLemmas
pub mod LookLemmas
pub mod OnWayLemmas
