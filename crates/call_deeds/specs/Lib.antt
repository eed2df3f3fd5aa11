pub mod RetriedCalls
pub mod ScriptsWithCalls
pub use Rattle.call_places
pub use Rattle.call_places.specs.Below
