-- What the crates above name of `call_client`.
pub use Rattle.call_run.specs.call_client.specs.ClientBetweenOperations
pub use Rattle.call_run.specs.call_client.specs.declared.caller.Caller
pub use Rattle.call_run.specs.call_client.proofs.ClientCallChanges
pub use Rattle.call_run.specs.call_client.specs.ClientRun
pub use Rattle.call_run.specs.call_client.proofs.EndedCallsTelling
