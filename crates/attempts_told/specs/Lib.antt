pub mod CountedAttempts
pub use Rattle.call_whys
pub use Rattle.call_whys.specs.Below
