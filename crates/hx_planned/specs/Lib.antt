pub use Rattle.hx_worker.specs.Steps
pub use Rattle.hx_worker.specs.Stops
pub use Rattle.hx_worker.specs.Cares
pub use Rattle.hx_worker.specs.Admitting
pub use Rattle.hx_course.specs.Courses
pub mod Plans
pub mod Laws
