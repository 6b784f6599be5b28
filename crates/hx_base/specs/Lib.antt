pub mod Counts
pub mod Names
pub mod PlaceWords
pub mod Shown
pub mod Spans
