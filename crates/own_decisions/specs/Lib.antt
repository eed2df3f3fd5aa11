pub use Rattle.sent_once.specs.accept_counts
pub use Rattle.sent_once
pub use Rattle.sent_once.specs.Below
