pub use Rattle.own_decisions.specs.accept_counts
pub use Rattle.own_decisions.specs.sent_once
pub use Rattle.own_decisions
pub use Rattle.own_decisions.specs.Below
