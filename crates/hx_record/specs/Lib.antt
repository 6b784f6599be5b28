pub mod Carriage
pub mod Covers
pub mod CutSamples
pub mod GoingOn
pub mod Samples
pub mod Tiles
pub mod Truth
