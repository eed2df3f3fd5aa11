pub mod CalmPrograms
pub use Rattle.send_causes
pub use Rattle.send_causes.specs.Below.programs_allowed.specs.sock_runs
pub use Rattle.send_causes.specs.Below.programs_allowed.specs.program_walks
pub use Rattle.send_causes.specs.Below
