-- The crates below whose definitions and lemmas the crates above name.
pub use Rattle.joint_runs.specs.Below.chain_steps
pub use Rattle.joint_runs.specs.Below.programs_allowed
pub use Rattle.joint_runs.specs.Below.id_runs
pub use Rattle.joint_runs
pub use Rattle.report_fits.specs.script_facts
pub use Rattle.report_fits
pub use Rattle.joint_runs.specs.Below.sock_steps
