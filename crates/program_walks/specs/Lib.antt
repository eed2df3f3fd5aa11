pub use Rattle.seat_programs.specs.brpc_model
pub use Rattle.sock_steps.specs.chain_steps
pub use Rattle.sock_steps.specs.slot_steps
pub use Rattle.sock_steps
pub use Rattle.sock_runs.specs.program_steps
pub use Rattle.sock_runs
