pub mod LatenessKnownOfRun
pub use Rattle.offered_runs.specs.served_sizes.specs.served_calls.specs.served_runs.specs.calm_runs.specs.send_causes
pub use Rattle.offered_runs.specs.served_sizes.specs.served_calls
pub use Rattle.offered_runs.specs.served_sizes.specs.served_calls.specs.served_runs
pub use Rattle.offered_runs.specs.served_sizes
pub use Rattle.offered_runs.specs.served_sizes.specs.served_calls.specs.Below
pub use Rattle.offered_runs
