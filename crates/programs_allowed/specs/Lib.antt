pub mod SeatOpenings
pub use Rattle.id_runs
pub use Rattle.slot_steps
pub use Rattle.program_walks.specs.program_steps
pub use Rattle.program_walks.specs.sock_runs
pub use Rattle.runs_end
pub use Rattle.program_walks
