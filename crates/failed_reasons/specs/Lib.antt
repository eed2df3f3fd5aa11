pub mod Missed
pub mod ErrorReasons
pub mod CallsEndedByReading
pub use Rattle.attempts_told
pub use Rattle.attempts_told.specs.call_whys
pub use Rattle.attempts_told.specs.Below
