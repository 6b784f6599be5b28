pub mod Lanes
pub mod LaneViews
pub mod Rule
