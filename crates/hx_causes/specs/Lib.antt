pub use Rattle.hx_run.specs.Turns
pub mod Causes
pub mod Laws
