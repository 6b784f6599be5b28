pub mod LinkSteps
pub mod SockViews
pub mod Nets
pub mod Doors
pub mod Finds
pub mod Files
