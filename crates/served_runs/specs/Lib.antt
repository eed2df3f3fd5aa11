pub mod OfferedReplies
pub mod ServedLinks
pub use Rattle.calm_runs.specs.send_causes.specs.Below
pub use Rattle.calm_runs
