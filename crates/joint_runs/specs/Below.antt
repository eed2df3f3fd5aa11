-- The crates below whose definitions and lemmas the crates above name.
pub use Rattle.programs_allowed.specs.program_steps.specs.chain_steps
pub use Rattle.programs_allowed
pub use Rattle.programs_allowed.specs.id_runs
pub use Rattle.programs_allowed.specs.slot_steps
pub use Rattle.programs_allowed.specs.program_steps
pub use Rattle.programs_allowed.specs.sock_runs
pub use Rattle.programs_allowed.specs.program_walks
pub use Rattle.programs_allowed.specs.program_steps.specs.sock_steps
