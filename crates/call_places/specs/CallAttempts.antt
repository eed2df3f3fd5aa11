-- What the crates above name of `call_attempts`.
pub use Rattle.call_run.specs.call_client.specs.call_attempts.specs.Attempting
pub use Rattle.call_run.specs.call_client.specs.call_attempts.specs.ClientAtBothTables
pub use Rattle.call_run.specs.call_client.specs.call_attempts.specs.declared.calling.Called.TheVariants as CalledVariants
pub use Rattle.call_run.specs.call_client.specs.call_attempts.specs.CallBeginning
pub use Rattle.call_run.specs.call_client.specs.call_attempts.specs.AttemptLetters
pub use Rattle.call_run.specs.call_client.specs.call_attempts.specs.WaitingRetries
