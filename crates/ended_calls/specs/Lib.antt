pub use Rattle.refused_attempts.specs.attempted_calls.specs.Below
pub use Rattle.refused_attempts
