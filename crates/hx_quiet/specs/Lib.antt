pub use Rattle.hx_run.specs.Turns
pub mod Stopped
pub mod Laws
