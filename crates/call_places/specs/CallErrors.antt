-- What the crates above name of `call_errors`.
pub use Rattle.call_run.specs.call_client.specs.call_errors.proofs.Accounts
pub use Rattle.call_run.specs.call_client.specs.call_errors.specs.ExpireAndJoinOutcomes
pub use Rattle.call_run.specs.call_client.specs.call_errors.specs.ClientBooks
pub use Rattle.call_run.specs.call_client.specs.call_errors.specs.CallEndsWithCode
pub use Rattle.call_run.specs.call_client.specs.call_errors.specs.Handling
pub use Rattle.call_run.specs.call_client.specs.call_errors.specs.LockingByVersion
pub use Rattle.call_run.specs.call_client.specs.call_errors.specs.PostedErrors
pub use Rattle.call_run.specs.call_client.specs.call_errors.specs.declared.retries.Retry
