pub use Rattle.attempted_calls.specs.accept_counts
pub use Rattle.attempted_calls.specs.sent_once
pub use Rattle.attempted_calls.specs.own_decisions
pub use Rattle.attempted_calls
pub use Rattle.attempted_calls.specs.Below
