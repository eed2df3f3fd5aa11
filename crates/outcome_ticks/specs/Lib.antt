pub use Rattle.outcome_stories.specs.program_steps
pub use Rattle.outcome_stories.specs.sock_runs
pub use Rattle.outcome_stories.specs.program_walks
pub use Rattle.outcome_stories
