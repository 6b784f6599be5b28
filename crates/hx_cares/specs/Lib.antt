pub use Rattle.hx_run.specs.Cares
pub use Rattle.hx_run.specs.Turns
pub mod Cared
pub mod Asked
pub mod Laws
