pub use Rattle.ended_calls.specs.refused_attempts.specs.accept_counts
pub use Rattle.ended_calls.specs.refused_attempts.specs.sent_once
pub use Rattle.ended_calls.specs.refused_attempts.specs.own_decisions
pub use Rattle.ended_calls.specs.refused_attempts.specs.attempted_calls
pub use Rattle.ended_calls
pub use Rattle.ended_calls.specs.refused_attempts
pub use Rattle.ended_calls.specs.refused_attempts.specs.Below
