pub mod QuietRuns
pub use Rattle.served_runs
pub use Rattle.served_runs.specs.Below
