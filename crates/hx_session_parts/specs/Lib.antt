pub mod Asks
pub mod Answers
pub mod Bodies
pub mod OnWay
