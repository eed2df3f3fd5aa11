pub mod LatePuts
pub mod World
pub mod Seen
pub mod Happening
pub mod RunLaws
pub use Rattle.programs_allowed
