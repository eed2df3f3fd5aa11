pub use Rattle.served_sizes.specs.served_calls.specs.served_runs
pub use Rattle.served_sizes.specs.served_calls.specs.served_runs.specs.Below
pub use Rattle.served_sizes
