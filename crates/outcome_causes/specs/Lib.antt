pub use Rattle.outcome_ticks.specs.program_steps
pub use Rattle.outcome_ticks.specs.sock_runs
pub use Rattle.outcome_ticks.specs.program_walks
pub use Rattle.outcome_ticks.specs.outcome_stories
pub use Rattle.outcome_ticks
