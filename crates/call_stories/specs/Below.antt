-- The crates below whose definitions and lemmas the crates above name.
pub use Rattle.owed_calls.specs.Below.programs_allowed
pub use Rattle.owed_calls.specs.Below.joint_runs
pub use Rattle.owed_calls.specs.call_owing
pub use Rattle.owed_calls.specs.owing_ticks
pub use Rattle.owed_calls.specs.owned_ids
pub use Rattle.owed_calls
pub use Rattle.outcome_stories
pub use Rattle.owed_calls.specs.Below.id_runs
