pub mod ClientBetweenOperations
pub mod ClientRun
pub mod ClientStopsMaking
pub use Rattle.call_attempts
pub use Rattle.call_errors
pub use Rattle.call_attempts.specs.call_writes
pub use Rattle.rpc_client
pub use Rattle.call_attempts.specs.write_chain
